-- A text that the grammar derives shows neither 11 nor 12. Assumes nothing.
--   SoFar           what completeness says of the declarations so far
--   definitions     along the declarations
use Prim.Native.Nat.{ℕ, ◌<◌, min}
use mathlib.Core.Path.{◌≡◌, refl, sym, ap, ◌∙◌}
use mathlib.Core.Logic.{◌≢◌}
use Rattle.std.specs.Prelude.{Option, Some}
use mathlib.Core.List.Memᴰ.{head as here}
use mathlib.Core.List.Memᴰ.{tail as there}
use mathlib.Core.List.{List, [], ◌∷◌, Memᴰ}
use mathlib.Core.Bool.{Bool, true, cond}
use native.Mathlib.Omega.{arith}
use lib.Dec.{ltb, eqb}
use borrow.Author.Tests.{ltb-true, ltb-false}
use Rattle.lists.proofs.Bools.{and_l, Flag, on, off, flag}
use Rattle.recording.specs.declared.Place.TheVariants.{Definition, SkipDefinition, Wire, Width, Code, Name, VarEnd, DefinitionsEnd, Body}
use Rattle.recording.specs.declared.Signal.{Signal}
use Rattle.recording.specs.declared.Reader.{Reader}
use Rattle.recording.specs.Words.{bytes_of, Word}
use Rattle.recording.specs.Values.{is_decimal, decimal, is_code, code_of}
use Rattle.recording.specs.Records.{start, variable, at, with_width, with_code, declaring, refused}
use Rattle.recording.specs.Declarations.{signals, name_of, signal_of, Form, forms, width_in, declared, all_declared, declares}
use Rattle.recording.specs.Reading.{out_of_place, is_skipped, read_definition, read_width, read_code, read_name, read_at, progress, read_words}
use Rattle.recording.specs.Reading.{finished}
use Rattle.recording.specs.Faults.{fits_in, is_declared, declares_well}
use Rattle.recording.specs.Grammar.{Is, Declaration, declaration, Once, more, Complete, Definitions}
use Rattle.readings.proofs.Codes.{same_bytes_lem, signal_of_name, name_injective, code_injective, code_positive}
use Rattle.readings.proofs.Lists.{all_in}
use Rattle.readings.proofs.Agreement.{Agrees, agrees_start, Pends, Right, declares_in, agrees_declared, Declares, declaration_of}
use Rattle.readings.proofs.Steps.{Clear}
use Rattle.readings.proofs.Following.{Fine, Follows, move, Declared, skipped_definition}
use Rattle.readings.proofs.Changed.{has_code_of, items}

-- ---- the definitions

-- what completeness says of the declarations so far
record SoFar (ds : List Declaration) : Type 0 where
  form : Form
  listed : Memᴰ form forms
  right : (d : Declaration) → Memᴰ d ds → (s : Signal) × (d.name ≡ name_of s) × (d.width ≡ width_in form s)
  names : Once (λ d. d.name) ds
  codes : Once (λ d. d.code) ds

once_tail : {f : Declaration → List ℕ} {d : Declaration} {ds : List Declaration} → Once f (d ∷ ds) → Once f ds
once_tail (more h o) = o

once_head : {f : Declaration → List ℕ} {d : Declaration} {ds : List Declaration} → Once f (d ∷ ds) → (e : Declaration) →
    Memᴰ e ds → f d ≢ f e
once_head (more h o) = h

so_far : {ds : List Declaration} {ws : List Word} → Definitions ds ws → SoFar ds
so_far (Definitions.skip h s x) = so_far x
so_far (Definitions.var {ds} pv pi pw pc pe x) = go (so_far x)
  where
    go : {d : Declaration} → SoFar (d ∷ ds) → SoFar ds
    go f =
        record {
          form = f.form;
          listed = f.listed;
          right = λ e m. f.right e (there m);
          names = once_tail f.names;
          codes = once_tail f.codes;
        }
so_far (Definitions.end pv pe c i) =
    record { form = c.form; listed = c.listed; right = c.right; names = c.names; codes = c.codes }

-- a declaration that completeness allows is right
module _ (r : Reader) (ds : List Declaration) (a : Agrees r.variables ds) (d : Declaration) (coded : is_code d.code ≡ true)
    (f : SoFar (d ∷ ds)) (s : Signal) (named : d.name ≡ name_of s) where
  -- the form's width of a variable is told by its name
  form_width : (e : Declaration) → Memᴰ e (d ∷ ds) → (s' : Signal) → e.name ≡ name_of s' → e.width ≡ width_in f.form s'
  form_width e m s' k =
      let x : (t : Signal) × (e.name ≡ name_of t) × (e.width ≡ width_in f.form t) = f.right e m in
      x.2 ∙ ap (width_in f.form) (name_injective x.0 s' (sym x.1 ∙ k))

  is_right : Right r s d
  is_right =
      record {
        undeclared = zero_code (flag (ltb 0 (variable r s).code));
        form = f.form;
        listed = f.listed;
        width = form_width d (here refl) s named;
        before =
            λ s' h.
            let x : Declares r ds s' = declaration_of r ds s' a h in
            x.width ∙ form_width x.declaration (there x.listed) s' x.named;
        unused =
            λ s' k.
            let x : Declares r ds s' = declaration_of r ds s' a (positive s' k) in
            once_head f.codes x.declaration x.listed
            (code_injective d.code x.declaration.code coded x.coded (sym k ∙ x.code));
      }
    where
      zero_code : Flag (ltb 0 (variable r s).code) → (variable r s).code ≡ 0
      zero_code (on e) =
          let x : Declares r ds s = declaration_of r ds s a (ltb-true 0 (variable r s).code e) in
          absurd (once_head f.names x.declaration x.listed (named ∙ sym x.named))
      zero_code (off e) = omega (arith, ltb-false 0 (variable r s).code e)

      positive : (s' : Signal) → (variable r s').code ≡ code_of d.code → 0 < (variable r s').code
      positive s' k = omega (arith, k, code_positive d.code coded)

-- the words of a declaration
module _ (n : ℕ) (ds : List Declaration) where
  Width_read : Word → Reader → Type 0
  Width_read w r = Agrees r.variables ds × (min 255 (decimal w.bytes) ≡ r.pending.width)

  Code_read : Word → Word → Reader → Type 0
  Code_read w c r = Agrees r.variables ds × (min 255 (decimal w.bytes) ≡ r.pending.width) × (code_of c.bytes ≡ r.pending.code)

  closing : (ds' : List Declaration) (e : Word) (ws : List Word) → Is "$end" e → Follows n Definition (Declared ds') ws →
      Follows n VarEnd (Declared ds') (e ∷ ws)
  unfolding Follows Declared read_at fits_in declares_well
  closing ds' e ws h follows x ex g a =
      move n VarEnd Definition (Declared ds') x e ws ex g h refl (at Definition x.reader)
      (ap (λ (b : Bool). cond b (at Definition x.reader) (out_of_place e x.reader)) h) refl a follows

  naming : (w c m e : Word) (ws : List Word) → is_code c.bytes ≡ true →
      SoFar (declaration m.bytes (decimal w.bytes) c.bytes ∷ ds) →
      Follows n VarEnd (Declared (declaration m.bytes (decimal w.bytes) c.bytes ∷ ds)) (e ∷ ws) → Follows n Name
      (Code_read w c) (m ∷ e ∷ ws)
  unfolding Follows Declared Code_read read_at read_name fits_in declares_well
  naming w c m e ws pc f follows x ex g i =
      let d : Declaration = declaration m.bytes (decimal w.bytes) c.bytes in
      let r : Reader = x.reader in
      let k : (s : Signal) × (m.bytes ≡ name_of s) × (decimal w.bytes ≡ width_in f.form s) = f.right d (here refl) in
      let p : Pends r k.0 d = record { named = k.1; width = i.1; coded = pc; code = i.2 } in
      let q : Right r k.0 d = is_right r ds i.0 d pc f k.0 k.1 in
      let o : signal_of m.bytes ≡ Some k.0 = ap signal_of k.1 ∙ signal_of_name k.0 in
      let t : declares r k.0 ≡ true = declares_in r k.0 d p q in
      move n Name VarEnd (Declared (d ∷ ds)) x m (e ∷ ws) ex g refl (ap (λ (y : Option Signal). is_declared y r) o ∙ t)
      (at VarEnd (declaring k.0 r))
      (ap (λ (y : Option Signal). read_name y r m) o ∙ ap (λ (b : Bool). cond b (at VarEnd (declaring k.0 r))
      (refused 12 m.at r)) t) refl
      (agrees_declared r ds k.0 d p q i.0) follows

  coding : (w c : Word) (ws : List Word) → is_code c.bytes ≡ true → Follows n Name (Code_read w c) ws →
      Follows n Code (Width_read w) (c ∷ ws)
  unfolding Follows Width_read Code_read read_at read_code fits_in declares_well
  coding w c ws h follows x ex g i =
      move n Code Name (Code_read w c) x c ws ex g h refl (at Name (with_code (code_of c.bytes) x.reader))
      (ap (λ (b : Bool). cond b (at Name (with_code (code_of c.bytes) x.reader)) (out_of_place c x.reader)) h) refl
      (i.0, i.1, refl) follows

  sizing : (w : Word) (ws : List Word) → is_decimal w.bytes ≡ true → Follows n Code (Width_read w) ws →
      Follows n Width (Declared ds) (w ∷ ws)
  unfolding Follows Declared Width_read read_at read_width fits_in declares_well
  sizing w ws h follows x ex g a =
      move n Width Code (Width_read w) x w ws ex g h refl (at Code (with_width (min 255 (decimal w.bytes)) x.reader))
      (ap (λ (b : Bool). cond b (at Code (with_width (min 255 (decimal w.bytes)) x.reader)) (out_of_place w x.reader)) h) refl
      (a, refl) follows

  wiring : (i : Word) (ws : List Word) → Is "wire" i → Follows n Width (Declared ds) ws → Follows n Wire (Declared ds) (i ∷ ws)
  unfolding Follows Declared read_at fits_in declares_well
  wiring i ws h follows x ex g a =
      move n Wire Width (Declared ds) x i ws ex g h refl (at Width x.reader)
      (ap (λ (b : Bool). cond b (at Width x.reader) (out_of_place i x.reader)) h) refl a follows

  opening : (v : Word) (ws : List Word) → Is "$var" v → Follows n Wire (Declared ds) ws → Follows n Definition (Declared ds) (v ∷ ws)
  unfolding Follows Declared read_at read_definition fits_in declares_well
  opening v ws h follows x ex g a =
      let k : v.bytes ≡ bytes_of "$var" = same_bytes_lem v.bytes (bytes_of "$var") h in
      move n Definition Wire (Declared ds) x v ws ex g (rw k) (rw k) (at Wire x.reader) (rw k) refl a follows

  -- $enddefinitions, with all five declared, and its $end
  all_declared_lem : (r : Reader) → Agrees r.variables ds → Complete ds → all_declared r ≡ true
  all_declared_lem r a c =
      all_in (declared r) signals
      (λ s m.
      let d : (d : Declaration) × Memᴰ d ds × (d.name ≡ name_of s) = c.each s in
      and_l (declared r s) (eqb (variable r s).code (code_of d.0.code)) (has_code_of r ds a d.0 d.1 s d.2))

  ending_definitions : (v e : Word) (ws : List Word) → Is "$enddefinitions" v → Is "$end" e → Complete ds →
      Follows n Body (Declared ds) ws → Follows n Definition (Declared ds) (v ∷ e ∷ ws)
  unfolding Follows Declared read_at read_definition fits_in declares_well
  ending_definitions v e ws h h' c follows x ex g a =
      let k : v.bytes ≡ bytes_of "$enddefinitions" = same_bytes_lem v.bytes (bytes_of "$enddefinitions") h in
      let d : all_declared x.reader ≡ true = all_declared_lem x.reader a c in
      move n Definition DefinitionsEnd (Declared ds) x v (e ∷ ws) ex g (rw k) (rw (k, d)) (at DefinitionsEnd x.reader) (rw (k, d)) refl a
      (λ y ey gy ay.
      move n DefinitionsEnd Body (Declared ds) y e ws ey gy h' refl (at Body y.reader)
      (ap (λ (b : Bool). cond b (at Body y.reader) (out_of_place e y.reader)) h') refl ay follows)

skipping_definition : (n : ℕ) (ds : List Declaration) (w : Word) (ws : List Word) → is_skipped w.bytes ≡ true →
    Follows n SkipDefinition (Declared ds) ws → Follows n Definition (Declared ds) (w ∷ ws)
unfolding Follows Declared read_at read_definition fits_in declares_well
skipping_definition n ds w ws h follows p e g a =
    move n Definition SkipDefinition (Declared ds) p w ws e g (rw h) (rw h) (at SkipDefinition p.reader) (rw h) refl a follows

definitions : (n : ℕ) {ds : List Declaration} {ws : List Word} → Definitions ds ws → Follows n Definition (Declared ds) ws
definitions n (Definitions.skip {ds} {w} {ws} h s x) = skipping_definition n ds w ws h (skipped_definition n ds s (definitions n x))
definitions n (Definitions.var {ds} {v} {i} {w} {c} {n = m} {e} {ws} pv pi pw pc pe x) =
    opening n ds v (i ∷ w ∷ c ∷ m ∷ e ∷ ws) pv
    (wiring n ds i (w ∷ c ∷ m ∷ e ∷ ws) pi
    (sizing n ds w (c ∷ m ∷ e ∷ ws) pw
    (coding n ds w c (m ∷ e ∷ ws) pc
    (naming n ds w c m e ws pc (so_far x)
    (closing n ds (declaration m.bytes (decimal w.bytes) c.bytes ∷ ds) e ws pe (definitions n x))))))
definitions n (Definitions.end {ds} {v} {e} {ws} pv pe c i) = ending_definitions n ds v e ws pv pe c (items n ds i)

pub derived_clear : (n : ℕ) (ws : List Word) → Definitions [] ws → Clear (finished n (read_words (progress start []) ws)).reader.fault
unfolding Follows Fine Declared
derived_clear n ws d = definitions n d (progress start []) refl refl agrees_start
