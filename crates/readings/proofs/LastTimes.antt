-- The time of an open stamp is the last time among the words read, and no other number is. Assumes nothing.
--   after, count               the reader, and how many commands are taken, after some words from the start
--   next_reader, next_count    the same after one more word
--   last_time                  the time of an open stamp is the last time among the words (`LastTime`)
--   only_time                  what is the last time among them is the time of the stamp
use Prim.Native.Nat.{ℕ, ◌+◌}
use mathlib.Core.Path.{◌≡◌, refl, sym, ap, ◌∙◌, subst}
use mathlib.Core.List.{List, [], ◌∷◌, ◌++◌, append-nil, append_assoc}
use mathlib.Core.Bool.{true, false, true≢false}
use native.Mathlib.Omega.{arith}
use lib.ListN.{length, length-append}
use Rattle.lists.proofs.Bools.{confirmed, Flag, on, off, flag}
use Rattle.recording.specs.declared.Stamp.{Stamp}
use Rattle.recording.specs.declared.Reader.{Reader}
use Rattle.recording.specs.Words.{Word}
use Rattle.recording.specs.Records.{start}
use Rattle.recording.specs.Stamps.{commands_of}
use Rattle.recording.specs.Reading.{is_good, read_word, Progress, progress, advance, read_words}
use Rattle.recording.specs.Statements.{after_words, stands_as_time, LastTime}
use Rattle.readings.proofs.Cutting.{read_words-joined}
use Rattle.readings.proofs.Final.{bad_words}
use Rattle.readings.proofs.Opening.{word_aside, Opens, opens_later}

abbrev pub after : List Word → Reader
after ws = (after_words ws).reader

abbrev pub count : List Word → ℕ
count ws = length (after_words ws).commands

-- ---- one more word

module _ (ws : List Word) (w : Word) where
  pub next_reader : after (ws ++ (w ∷ [])) ≡ (read_word (after ws) w).reader
  unfolding read_words advance
  next_reader = ap (λ (p : Progress). p.reader) (read_words-joined (progress start []) ws (w ∷ []))

  pub next_count : count (ws ++ (w ∷ [])) ≡ count ws + length (commands_of (read_word (after ws) w).strobe)
  unfolding read_words advance
  next_count =
      ap (λ (p : Progress). length p.commands) (read_words-joined (progress start []) ws (w ∷ [])) ∙
      length-append (after_words ws).commands (commands_of (read_word (after ws) w).strobe)

  -- a word put behind those before it
  pub behind_one : (vs : List Word) → (ws ++ (w ∷ [])) ++ vs ≡ ws ++ (w ∷ vs)
  behind_one vs = append_assoc ws (w ∷ []) vs

-- no fault after more words: none before
good_front : (ws vs : List Word) → is_good (after (ws ++ vs)) ≡ true → is_good (after ws) ≡ true
good_front ws vs g =
    confirmed (is_good (after ws))
    (λ b.
    true≢false
    (sym g ∙ ap (λ (p : Progress). is_good p.reader) (read_words-joined (progress start []) ws vs ∙ bad_words (after_words ws) vs b) ∙ b))

-- ---- the last time

-- a list with one element more, split at an element
data Split (behind : List Word) (w : Word) (us : List Word) (v : Word) : Type 0 where
  inside : (vs : List Word) → behind ≡ us ++ (v ∷ vs) → Split behind w us v
  last : us ≡ behind → v ≡ w → Split behind w us v

no_split : (us vs : List Word) (v : Word) → [] ≡ us ++ (v ∷ vs) → ⊥
no_split [] vs v e = let z : ◌≡◌ {A = ℕ} 0 1 = cc in omega arith
no_split (u ∷ us) vs v e = let z : ◌≡◌ {A = ℕ} 0 1 = cc in omega arith

split_more : (behind us vs : List Word) (v w : Word) → behind ++ (w ∷ []) ≡ us ++ (v ∷ vs) → Split behind w us v
split_more [] [] vs v w e = last refl (cc)
split_more [] (u ∷ us) vs v w e = let f : [] ≡ us ++ (v ∷ vs) = cc in absurd (no_split us vs v f)
split_more (b ∷ bs) [] vs v w e = let f : b ≡ v = cc in inside bs (ap (λ (x : Word). x ∷ bs) f)
split_more (b ∷ bs) (u ∷ us) vs v w e =
    let f : b ≡ u = cc in
    let g : bs ++ (w ∷ []) ≡ us ++ (v ∷ vs) = cc in
    go f (split_more bs us vs v w g)
  where
    go : b ≡ u → Split bs w us v → Split (b ∷ bs) w (u ∷ us) v
    go f (inside xs k) = inside xs (λ i. f i ∷ k i)
    go f (last k l) = last (λ i. sym f i ∷ k i) l

-- a reader without a fault in an open stamp has read its time, and none since
abbrev pub Stamped : List Word → Type 0
Stamped ws = is_good (after ws) ≡ true → (after ws).stamp.opened ≡ true → LastTime ws (after ws).stamp.time

module _ (ws : List Word) (w : Word) where
  -- a word that stands as a time is the last
  last_here : Opens (after ws) w (read_word (after ws) w).reader → stands_as_time ws w ≡ true →
      LastTime (ws ++ (w ∷ [])) (read_word (after ws) w).reader.stamp.time
  last_here o s =
      record {
        before = ws;
        word = w;
        behind = [];
        split = refl;
        stands = s;
        spells = (o.is_time_lem, sym o.time);
        no_other = λ us vs v e. absurd (no_split us vs v e);
      }

  -- any other leaves the last where it was
  last_before : {x : ℕ} → LastTime ws x → stands_as_time ws w ≡ false → LastTime (ws ++ (w ∷ [])) x
  last_before l s =
      record {
        before = l.before;
        word = l.word;
        behind = l.behind ++ (w ∷ []);
        split = ap (λ (xs : List Word). xs ++ (w ∷ [])) l.split ∙ append_assoc l.before (l.word ∷ l.behind) (w ∷ []);
        stands = l.stands;
        spells = l.spells;
        no_other = λ us vs v e. other us v (split_more l.behind us vs v w e);
      }
    where
      other : (us : List Word) (v : Word) → Split l.behind w us v → stands_as_time (l.before ++ (l.word ∷ us)) v ≡ false
      other us v (inside vs k) = l.no_other us vs v k
      other us v (last k e) =
          ap (λ (xs : List Word). stands_as_time (l.before ++ (l.word ∷ xs)) v) k ∙
          ap (λ (xs : List Word). stands_as_time xs v) (sym l.split) ∙ ap (stands_as_time ws) e ∙ s

  stamped_word : Stamped ws → Stamped (ws ++ (w ∷ []))
  stamped_word h g o = go (flag (stands_as_time ws w))
    where
      r : Reader
      r = after ws

      before : is_good r ≡ true
      before = good_front ws (w ∷ []) g

      good : is_good (read_word r w).reader ≡ true
      good = sym (ap is_good (next_reader ws w)) ∙ g

      go : Flag (stands_as_time ws w) → LastTime (ws ++ (w ∷ [])) (after (ws ++ (w ∷ []))).stamp.time
      go (on s) = rw (next_reader ws w) (last_here (opens_later r w s before good) s)
      go (off s) =
          let same : (after (ws ++ (w ∷ []))).stamp ≡ r.stamp
          = ap (λ (x : Reader). x.stamp) (next_reader ws w) ∙ (word_aside r w s).0 in
          subst (λ (x : Stamp). LastTime (ws ++ (w ∷ [])) x.time) (sym same)
          (last_before (h before (sym (ap (λ (x : Stamp). x.opened) same) ∙ o)) s)

stamped_words : (ws vs : List Word) → Stamped ws → Stamped (ws ++ vs)
stamped_words ws [] h = subst Stamped (sym (append-nil ws)) h
stamped_words ws (v ∷ vs) h = subst Stamped (behind_one ws v vs) (stamped_words (ws ++ (v ∷ [])) vs (stamped_word ws v h))

pub last_time : (ws : List Word) → Stamped ws
unfolding read_words
last_time ws = stamped_words [] ws (λ g o. absurd (true≢false (sym o)))

-- ---- no other time is the last

stamp_behind : (ws vs : List Word) → ((us xs : List Word) (v : Word) → vs ≡ us ++ (v ∷ xs) → stands_as_time (ws ++ us) v ≡ false) →
    (after (ws ++ vs)).stamp ≡ (after ws).stamp
stamp_behind ws [] h = ap (λ (xs : List Word). (after xs).stamp) (append-nil ws)
stamp_behind ws (w ∷ vs) h =
    ap (λ (xs : List Word). (after xs).stamp) (sym (behind_one ws w vs)) ∙
    stamp_behind (ws ++ (w ∷ [])) vs
    (λ us xs v e.
    ap (λ (ys : List Word). stands_as_time ys v) (behind_one ws w us) ∙ h (w ∷ us) xs v (ap (λ (ys : List Word). w ∷ ys) e)) ∙
    ap (λ (x : Reader). x.stamp) (next_reader ws w) ∙
    (word_aside (after ws) w (ap (λ (ys : List Word). stands_as_time ys w) (sym (append-nil ws)) ∙ h [] vs w refl)).0

module _ (ws : List Word) (x : ℕ) (l : LastTime ws x) (good : is_good (after ws) ≡ true) where
  -- the words up to the time
  upto : List Word
  upto = l.before ++ (l.word ∷ [])

  whole : ws ≡ upto ++ l.behind
  unfolding upto
  whole = l.split ∙ sym (behind_one l.before l.word l.behind)

  opens_here : Opens (after l.before) l.word (read_word (after l.before) l.word).reader
  unfolding upto whole
  opens_here =
      let g : is_good (after upto) ≡ true = good_front upto l.behind (sym (ap (λ (ys : List Word). is_good (after ys)) whole) ∙ good) in
      opens_later (after l.before) l.word l.stands (good_front l.before (l.word ∷ []) g)
      (sym (ap is_good (next_reader l.before l.word)) ∙ g)

  pub only_time : (after ws).stamp.time ≡ x
  unfolding upto whole
  only_time =
      ap (λ (ys : List Word). (after ys).stamp.time) whole ∙
      ap (λ (s : Stamp). s.time)
      (stamp_behind upto l.behind
      (λ us vs v e.
      ap (λ (ys : List Word). stands_as_time ys v) (behind_one l.before l.word us) ∙ l.no_other us vs v e)) ∙
      ap (λ (y : Reader). y.stamp.time) (next_reader l.before l.word) ∙ opens_here.time ∙ l.spells.1
