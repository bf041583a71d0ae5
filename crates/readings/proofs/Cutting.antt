-- Words of a text joined at a separator, and readings of words joined. Assumes nothing.
--   cut_joined          the words of both parts, one after the other
--   read_words-joined    a reading goes on where the first part left it
--   read_words-commands  a reading only adds to the commands so far, and doesn't depend on them
use Prim.Native.Nat.{ℕ, suc, ◌+◌}
use mathlib.Core.Path.{◌≡◌, refl, sym, ap, ◌∙◌}
use mathlib.Core.List.{List, [], ◌∷◌, ◌++◌, append-nil, append_assoc}
use mathlib.Core.Bool.{Bool, true, false, cond}
use lib.ListN.{length}
use native.Mathlib.Omega.{arith}
use Rattle.model.specs.declared.Command.{Command}
use Rattle.recording.specs.declared.Reader.{Reader}
use Rattle.recording.specs.Words.{separator, Word, closed, cut}
use Rattle.recording.specs.Stamps.{commands_of}
use Rattle.recording.specs.Reading.{Progress, progress, advance, read_word, read_words}

closed_joined : (end : ℕ) (w : List ℕ) (xs ys : List Word) → closed end w (xs ++ ys) ≡ closed end w xs ++ ys
closed_joined end [] xs ys = refl
closed_joined end (b ∷ bs) xs ys = refl

pub cut_joined : (at : ℕ) (w t u : List ℕ) (b : ℕ) → separator b ≡ true →
    cut at w (t ++ (b ∷ u)) ≡ cut at w t ++ cut (suc (at + length t)) [] u
unfolding cut
cut_joined at w [] u b s = rw s (ap (λ (n : ℕ). closed at w (cut (suc n) [] u)) (omega arith) ∙ closed_joined at w []
    (cut (suc (at + 0)) [] u))
cut_joined at w (c ∷ t) u b s =
    go (separator c) (cut_joined (suc at) [] t u b s ∙ shifted [])
    (cut_joined (suc at) (w ++ (c ∷ [])) t u b s ∙ shifted (w ++ (c ∷ [])))
  where
    shifted : (v : List ℕ) →
        cut (suc at) v t ++ cut (suc (suc at + length t)) [] u ≡ cut (suc at) v t ++ cut (suc (at + suc (length t))) [] u
    shifted v = ap (λ (n : ℕ). cut (suc at) v t ++ cut (suc n) [] u) (omega arith)

    go : (x : Bool) → cut (suc at) [] (t ++ (b ∷ u)) ≡ cut (suc at) [] t ++ cut (suc (at + suc (length t))) [] u →
        cut (suc at) (w ++ (c ∷ [])) (t ++ (b ∷ u)) ≡ cut (suc at) (w ++ (c ∷ [])) t ++ cut (suc (at + suc (length t))) [] u →
        cond x (closed at w (cut (suc at) [] (t ++ (b ∷ u)))) (cut (suc at) (w ++ (c ∷ [])) (t ++ (b ∷ u))) ≡
        cond x (closed at w (cut (suc at) [] t)) (cut (suc at) (w ++ (c ∷ [])) t) ++ cut (suc (at + suc (length t))) [] u
    go true p q = ap (closed at w) p ∙ closed_joined at w (cut (suc at) [] t) (cut (suc (at + suc (length t))) [] u)
    go false p q = q

pub read_words-joined : (p : Progress) (xs ys : List Word) → read_words p (xs ++ ys) ≡ read_words (read_words p xs) ys
unfolding read_words
read_words-joined p [] ys = refl
read_words-joined p (w ∷ ws) ys = read_words-joined (advance p.commands (read_word p.reader w)) ws ys

pub read_words-commands : (r : Reader) (cs : List Command) (ws : List Word) →
    read_words (progress r cs) ws ≡ progress (read_words (progress r []) ws).reader (cs ++ (read_words (progress r []) ws).commands)
unfolding read_words advance
read_words-commands r cs [] = sym (ap (progress r) (append-nil cs))
read_words-commands r cs (w ∷ ws) =
    let a = read_word r w in
    let given = commands_of a.strobe in
    let q = read_words (progress a.reader []) ws in
    read_words-commands a.reader (cs ++ given) ws ∙ ap (progress q.reader) (append_assoc cs given q.commands) ∙
    sym (ap (λ (p : Progress). progress p.reader (cs ++ p.commands)) (read_words-commands a.reader given ws))
