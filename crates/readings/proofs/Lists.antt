-- Tests over a list as facts about its members. Assumes nothing.
--   all_in, all_out, any_in, any_out, none_out    `all` and `any`
--   first_in, first_out                           the first that passes a test
--   every_signal, compare                         the five variables, one by one and two by two
use mathlib.Core.Path.{◌≡◌, refl, sym, ap, ◌∙◌}
use Rattle.std.specs.Prelude.{Some}
use Rattle.std.proofs.lemmas.Option.{none-some}
use mathlib.Core.List.Memᴰ.{head as here}
use mathlib.Core.List.Memᴰ.{tail as there}
use mathlib.Core.List.{List, [], ◌∷◌, Memᴰ}
use mathlib.Core.Bool.{Bool, true, false, cond, true≢false}
use Rattle.lists.proofs.Bools.{and_in, and_l, and_r, or_in_l, or_in_r, or_off, refuted, clash, Flag, on, off, flag}
use Rattle.recording.specs.declared.Signal.{Signal}
use Rattle.recording.specs.declared.Signal.TheVariants.{Stb, Cmd, Core, Arg, Prio}
use Rattle.recording.specs.declared.Variable.{Variable}
use Rattle.recording.specs.declared.Variables.{Variables}
use Rattle.recording.specs.Words.{all, any}
use Rattle.recording.specs.Records.{variable_of, with_variable_of}
use Rattle.recording.specs.Declarations.{signals, first}

module _ {A : Type 0} (f : A → Bool) where
  pub all_out : (l : List A) → all f l ≡ true → (a : A) → Memᴰ a l → f a ≡ true
  all_out [] e a m = elim m [ ]
  all_out (x ∷ xs) e a (here p) = ap f p ∙ and_l (f x) (all f xs) e
  all_out (x ∷ xs) e a (there m) = all_out xs (and_r (f x) (all f xs) e) a m

  pub all_in : (l : List A) → ((a : A) → Memᴰ a l → f a ≡ true) → all f l ≡ true
  all_in [] h = refl
  all_in (x ∷ xs) h = and_in (h x (here refl)) (all_in xs (λ a m. h a (there m)))

  pub any_in : (l : List A) (a : A) → Memᴰ a l → f a ≡ true → any f l ≡ true
  any_in [] a m e = elim m [ ]
  any_in (x ∷ xs) a (here p) e = or_in_l (any f xs) (sym (ap f p) ∙ e)
  any_in (x ∷ xs) a (there m) e = or_in_r (f x) (any_in xs a m e)

  pub any_out : (l : List A) → any f l ≡ true → (a : A) × Memᴰ a l × (f a ≡ true)
  any_out [] e = absurd (true≢false (sym e))
  any_out (x ∷ xs) e = go (flag (f x)) (any_out xs)
    where
      go : Flag (f x) → (any f xs ≡ true → (a : A) × Memᴰ a xs × (f a ≡ true)) → (a : A) × Memᴰ a (x ∷ xs) × (f a ≡ true)
      go (on p) rest = (x, here refl, p)
      go (off p) rest =
          let r : (a : A) × Memᴰ a xs × (f a ≡ true) = rest (or_off (f x) (any f xs) e p) in
          (r.0, there r.1, r.2)

  pub none_out : (l : List A) → any f l ≡ false → (a : A) → Memᴰ a l → f a ≡ false
  none_out l e a m = refuted (f a) (λ p. clash (any_in l a m p) e)

-- ---- the first that passes

pub first_out : (f : Signal → Bool) (l : List Signal) (s : Signal) → first f l ≡ Some s → Memᴰ s l × (f s ≡ true)
first_out f [] s e = absurd (none-some s e)
first_out f (x ∷ xs) s e = go (flag (f x)) (first_out f xs s)
  where
    go : Flag (f x) → (first f xs ≡ Some s → Memᴰ s xs × (f s ≡ true)) → Memᴰ s (x ∷ xs) × (f s ≡ true)
    go (on p) rest =
        let q : Some x ≡ Some s = sym (ap (λ (b : Bool). cond b (Some x) (first f xs)) p) ∙ e in
        let r : x ≡ s = cc in
        (here (sym r), sym (ap f r) ∙ p)
    go (off p) rest =
        let r : Memᴰ s xs × (f s ≡ true) = rest (sym (ap (λ (b : Bool). cond b (Some x) (first f xs)) p) ∙ e) in
        (there r.0, r.1)

pub first_in : (f : Signal → Bool) (l : List Signal) (s : Signal) → Memᴰ s l → f s ≡ true →
    (s' : Signal) × (first f l ≡ Some s') × (f s' ≡ true)
first_in f [] s m e = elim m [ ]
first_in f (x ∷ xs) s m e = go (flag (f x)) m (first_in f xs s)
  where
    go : Flag (f x) → Memᴰ s (x ∷ xs) → (Memᴰ s xs → f s ≡ true → (s' : Signal) × (first f xs ≡ Some s') × (f s' ≡ true)) →
        (s' : Signal) × (first f (x ∷ xs) ≡ Some s') × (f s' ≡ true)
    go (on p) k rest = (x, rw p, p)
    go (off p) (here q) rest = clash e (ap f q ∙ p)
    go (off p) (there k) rest =
        let r : (s' : Signal) × (first f xs ≡ Some s') × (f s' ≡ true) = rest k e in
        (r.0, rw p r.1, r.2)

-- ---- the five variables

pub every_signal : (s : Signal) → Memᴰ s signals
every_signal Stb = here refl
every_signal Cmd = there (here refl)
every_signal Core = there (there (here refl))
every_signal Arg = there (there (there (here refl)))
every_signal Prio = there (there (there (there (here refl))))

pub read_same : (vs : Variables) (s : Signal) (v : Variable) → variable_of (with_variable_of vs s v) s ≡ v
read_same vs Stb v = refl
read_same vs Cmd v = refl
read_same vs Core v = refl
read_same vs Arg v = refl
read_same vs Prio v = refl

-- the same variable, or one that a write to the first leaves alone
pub data Compared (s s' : Signal) : Type 0 where
  same : s ≡ s' → Compared s s'
  other : ((vs : Variables) (v : Variable) → variable_of (with_variable_of vs s v) s' ≡ variable_of vs s') → Compared s s'

pub compare : (s s' : Signal) → Compared s s'
compare Stb Stb = same refl
compare Stb Cmd = other (λ vs v. refl)
compare Stb Core = other (λ vs v. refl)
compare Stb Arg = other (λ vs v. refl)
compare Stb Prio = other (λ vs v. refl)
compare Cmd Stb = other (λ vs v. refl)
compare Cmd Cmd = same refl
compare Cmd Core = other (λ vs v. refl)
compare Cmd Arg = other (λ vs v. refl)
compare Cmd Prio = other (λ vs v. refl)
compare Core Stb = other (λ vs v. refl)
compare Core Cmd = other (λ vs v. refl)
compare Core Core = same refl
compare Core Arg = other (λ vs v. refl)
compare Core Prio = other (λ vs v. refl)
compare Arg Stb = other (λ vs v. refl)
compare Arg Cmd = other (λ vs v. refl)
compare Arg Core = other (λ vs v. refl)
compare Arg Arg = same refl
compare Arg Prio = other (λ vs v. refl)
compare Prio Stb = other (λ vs v. refl)
compare Prio Cmd = other (λ vs v. refl)
compare Prio Core = other (λ vs v. refl)
compare Prio Arg = other (λ vs v. refl)
compare Prio Prio = same refl
