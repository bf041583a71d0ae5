-- What a reader holds of its variables agrees with the declarations that the grammar has passed. Assumes nothing.
--   Agrees vs ds          the variables vs hold exactly what ds declare
--   agrees_start, agrees_declared, agrees_kept     at the start, after a declaration, after a change of values
--   complete_declared     all five are declared: the declarations are complete
use Prim.Native.Nat.{ℕ, ◌<◌, min}
use mathlib.Core.Path.{◌≡◌, refl, sym, ap, ◌∙◌}
use mathlib.Core.Logic.{◌≢◌}
use mathlib.Core.List.Memᴰ
use mathlib.Core.List.Memᴰ.{head as here}
use mathlib.Core.List.Memᴰ.{tail as there}
use mathlib.Core.List.{List, [], ◌∷◌, Memᴰ}
use mathlib.Core.Bool.{Bool, true, not, ◌&&◌, ◌||◌}
use native.Mathlib.Omega.{arith}
use lib.Dec.{eqb}
use borrow.Author.Tests.{ltb-true, ltb-false, lt-ltb, eqb-true, eqb-false, eq-eqb, not-true}
use Rattle.lists.proofs.Bools.{and_in, and_l, and_r, or_in_l, or_in_r, or_off, not_in, refuted, Flag, on, off, flag}
use Rattle.recording.specs.declared.Signal.{Signal}
use Rattle.recording.specs.declared.Signal.TheVariants.{Stb, Cmd, Core, Arg, Prio}
use Rattle.recording.specs.declared.Value.{Value}
use Rattle.recording.specs.declared.Variable.{Variable}
use Rattle.recording.specs.declared.Variables.{Variables}
use Rattle.recording.specs.declared.Reader.{Reader}
use Rattle.recording.specs.Words.{any}
use Rattle.recording.specs.Values.{is_code, code_of}
use Rattle.recording.specs.Records.{variable_of, with_variable_of, variable_with, start, variable, with_value, declaring}
use Rattle.recording.specs.Declarations.{signals, name_of, Form, narrow, forms, width_in, declared, all_declared, fits, has_code, declares}
use Rattle.recording.specs.Grammar.{Declaration, Once, none, more, Complete}
use Rattle.readings.proofs.Codes.{name_injective, code_injective, code_positive, positive_code}
use Rattle.readings.proofs.Lists.{all_in, all_out, any_in, any_out, none_out, every_signal, read_same, Compared, same, other}
use Rattle.readings.proofs.Lists.{compare}

-- the variable of a declaration
pub record Known (vs : Variables) (d : Declaration) : Type 0 where
  pub signal : Signal
  pub named : d.name ≡ name_of signal
  pub coded : is_code d.code ≡ true
  pub code : (variable_of vs signal).code ≡ code_of d.code
  pub width : (variable_of vs signal).width ≡ d.width

-- one form has all the widths
pub record Fitting (vs : Variables) : Type 0 where
  pub form : Form
  pub listed : Memᴰ form forms
  pub widths : (s : Signal) → 0 < (variable_of vs s).code → (variable_of vs s).width ≡ width_in form s

pub record Agrees (vs : Variables) (ds : List Declaration) : Type 0 where
  pub held : (s : Signal) → 0 < (variable_of vs s).code → (d : Declaration) × Memᴰ d ds × (d.name ≡ name_of s)
  pub known : (d : Declaration) → Memᴰ d ds → Known vs d
  pub fitting : Fitting vs
  pub names : Once (λ d. d.name) ds
  pub codes : Once (λ d. d.code) ds

-- ---- at the start

undeclared : (s : Signal) → 0 < (variable start s).code → ⊥
undeclared Stb h = omega arith
undeclared Cmd h = omega arith
undeclared Core h = omega arith
undeclared Arg h = omega arith
undeclared Prio h = omega arith

pub agrees_start : Agrees start.variables []
agrees_start =
    record {
      held = λ s h. absurd (undeclared s h);
      known = λ d m. absurd (Memᴰ.not-nil m);
      fitting = record { form = narrow; listed = here refl; widths = λ s h. absurd (undeclared s h) };
      names = none;
      codes = none;
    }

-- ---- after a change of values

-- the same codes and widths
pub record SameKinds (vs vs' : Variables) : Type 0 where
  pub code : (s : Signal) → (variable_of vs' s).code ≡ (variable_of vs s).code
  pub width : (s : Signal) → (variable_of vs' s).width ≡ (variable_of vs s).width

pub agrees_kept : (vs vs' : Variables) (ds : List Declaration) → SameKinds vs vs' → Agrees vs ds → Agrees vs' ds
agrees_kept vs vs' ds k a =
    record {
      held = λ s h. a.held s (rw (k.code s) at h);
      known =
          λ d m.
          let x : Known vs d = a.known d m in
          record {
            signal = x.signal;
            named = x.named;
            coded = x.coded;
            code = k.code x.signal ∙ x.code;
            width = k.width x.signal ∙ x.width;
          };
      fitting =
          record {
            form = a.fitting.form;
            listed = a.fitting.listed;
            widths = λ s h. k.width s ∙ a.fitting.widths s (rw (k.code s) at h);
          };
      names = a.names;
      codes = a.codes;
    }

read_kept : (f : Variable → ℕ) (vs : Variables) (s s' : Signal) (v : Variable) → f v ≡ f (variable_of vs s) →
    f (variable_of (with_variable_of vs s v) s') ≡ f (variable_of vs s')
read_kept f vs s s' v e = go (compare s s')
  where
    go : Compared s s' → f (variable_of (with_variable_of vs s v) s') ≡ f (variable_of vs s')
    go (same p) = rw (← p) (ap f (read_same vs s v) ∙ e)
    go (other p) = ap f (p vs v)

pub value_kinds : (r : Reader) (s : Signal) (v : Value) → SameKinds r.variables (with_value s v r).variables
value_kinds r s v =
    record {
      code = λ s'. read_kept (λ (x : Variable). x.code) r.variables s s'
          (variable_with (variable r s).code (variable r s).width v) refl;
      width = λ s'. read_kept (λ (x : Variable). x.width) r.variables s s'
          (variable_with (variable r s).code (variable r s).width v) refl;
    }

-- ---- after a declaration

-- no width of a form is as large as what is held
pub small_widths : (f : Form) → Memᴰ f forms → (s : Signal) → width_in f s < 255
small_widths f (here e) s = rw e (go s)
  where
    go : (s : Signal) → width_in narrow s < 255
    go Stb = omega arith
    go Cmd = omega arith
    go Core = omega arith
    go Arg = omega arith
    go Prio = omega arith
small_widths f (there m) s = elim m [ ]

-- what the reader has read of a declaration of s
pub record Pends (r : Reader) (s : Signal) (d : Declaration) : Type 0 where
  pub named : d.name ≡ name_of s
  pub width : min 255 d.width ≡ r.pending.width
  pub coded : is_code d.code ≡ true
  pub code : code_of d.code ≡ r.pending.code

-- why it is right: the variable is not declared, one form has its width and those declared before, and no variable has its code
pub record Right (r : Reader) (s : Signal) (d : Declaration) : Type 0 where
  pub undeclared : (variable r s).code ≡ 0
  pub form : Form
  pub listed : Memᴰ form forms
  pub width : d.width ≡ width_in form s
  pub before : (s' : Signal) → 0 < (variable r s').code → (variable r s').width ≡ width_in form s'
  pub unused : (s' : Signal) → (variable r s').code ≢ code_of d.code

module _ (r : Reader) (s : Signal) (d : Declaration) (p : Pends r s d) where
  -- the width of a variable declared before
  agreed : Form → Signal → Bool
  agreed f s' = not (declared r s') || eqb (variable r s').width (width_in f s')

  agreed_out : (f : Form) (s' : Signal) → agreed f s' ≡ true → 0 < (variable r s').code → (variable r s').width ≡ width_in f s'
  unfolding agreed
  agreed_out f s' e h =
      eqb-true (variable r s').width (width_in f s')
      (or_off (not (declared r s')) (eqb (variable r s').width (width_in f s')) e (ap not (lt-ltb 0 (variable r s').code h)))

  agreed_in : (f : Form) (s' : Signal) → (0 < (variable r s').code → (variable r s').width ≡ width_in f s') → agreed f s' ≡ true
  unfolding agreed
  agreed_in f s' h = go (flag (declared r s'))
    where
      go : Flag (declared r s') → not (declared r s') || eqb (variable r s').width (width_in f s') ≡ true
      go (on e) = or_in_r (not (declared r s')) (eq-eqb (variable r s').width (width_in f s') (h (ltb-true 0 (variable r s').code e)))
      go (off e) = or_in_l (eqb (variable r s').width (width_in f s')) (not_in e)

  pub declares_out : declares r s ≡ true → Right r s d
  unfolding declares agreed
  declares_out e =
      let front : not (declared r s) && any (fits r s r.pending.width) forms ≡ true = and_l _ _ e in
      let f : (f : Form) × Memᴰ f forms × (fits r s r.pending.width f ≡ true) =
      any_out (fits r s r.pending.width) forms (and_r (not (declared r s)) _ front) in
      let w : r.pending.width ≡ width_in f.0 s = eqb-true _ _ (and_l (eqb r.pending.width (width_in f.0 s)) _ f.2) in
      record {
        undeclared = omega (arith, ltb-false 0 (variable r s).code (not-true (declared r s) (and_l (not (declared r s)) _ front)));
        form = f.0;
        listed = f.1;
        width = omega (arith, w, p.width, small_widths f.0 f.1 s);
        before =
            λ s' h.
            agreed_out f.0 s'
            (all_out (agreed f.0) signals (and_r (eqb r.pending.width (width_in f.0 s)) _ f.2) s' (every_signal s')) h;
        unused =
            λ s' q.
            eqb-false (variable r s').code r.pending.code
            (none_out (λ (x : Signal). eqb (variable r x).code r.pending.code) signals
            (not-true _ (and_r (not (declared r s) && any (fits r s r.pending.width) forms) _ e)) s' (every_signal s'))
            (q ∙ p.code);
      }

  pub declares_in : Right r s d → declares r s ≡ true
  unfolding declares agreed
  declares_in q =
      and_in
      (and_in (not_in (refuted (declared r s) (λ e. omega (arith, ltb-true 0 (variable r s).code e, q.undeclared))))
      (any_in (fits r s r.pending.width) forms q.form q.listed
      (and_in (eq-eqb r.pending.width (width_in q.form s) (omega (arith, p.width, q.width, small_widths q.form q.listed s)))
      (all_in (agreed q.form) signals (λ s' m. agreed_in q.form s' (q.before s'))))))
      (not_in
      (refuted (any (λ s'. eqb (variable r s').code r.pending.code) signals)
      (λ e.
      let x : (x : Signal) × Memᴰ x signals × (eqb (variable r x).code r.pending.code ≡ true) =
      any_out (λ s'. eqb (variable r s').code r.pending.code) signals e in
      q.unused x.0 (eqb-true (variable r x.0).code r.pending.code x.2 ∙ sym p.code))))

-- a declared variable has a code
pub known_declared : (vs : Variables) (d : Declaration) (x : Known vs d) → 0 < (variable_of vs x.signal).code
known_declared vs d x = rw x.code (code_positive d.code x.coded)

module _ (r : Reader) (ds : List Declaration) (s : Signal) (d : Declaration) (p : Pends r s d) (q : Right r s d)
    (a : Agrees r.variables ds) where
  v : Variable
  v = variable_with r.pending.code r.pending.width (variable r s).value

  after : Variables
  unfolding v
  after = with_variable_of r.variables s v

  -- a variable declared before is another one
  not_this : (e : Declaration) (x : Known r.variables e) → s ≡ x.signal → ⊥
  not_this e x k =
      omega (arith, known_declared r.variables e x, sym (ap (λ (y : Signal). (variable r y).code) k) ∙ q.undeclared)

  held_after : (s' : Signal) → 0 < (variable_of after s').code → (e : Declaration) × Memᴰ e (d ∷ ds) × (e.name ≡ name_of s')
  unfolding after
  held_after s' h = go (compare s s')
    where
      go : Compared s s' → (e : Declaration) × Memᴰ e (d ∷ ds) × (e.name ≡ name_of s')
      go (same k) = (d, here refl, p.named ∙ ap name_of k)
      go (other k) =
          let o : (e : Declaration) × Memᴰ e ds × (e.name ≡ name_of s') = a.held s' (rw (k r.variables v) at h) in
          (o.0, there o.1, o.2)

  known_this : Known after d
  unfolding after v
  known_this =
      record {
        signal = s;
        named = p.named;
        coded = p.coded;
        code = ap (λ (x : Variable). x.code) (read_same r.variables s v) ∙ sym p.code;
        width =
            ap (λ (x : Variable). x.width) (read_same r.variables s v) ∙
            omega (arith, p.width, q.width, small_widths q.form q.listed s);
      }

  known_before : (e : Declaration) → Known r.variables e → Known after e
  unfolding after
  known_before e x = go (compare s x.signal)
    where
      go : Compared s x.signal → Known after e
      go (same k) = absurd (not_this e x k)
      go (other k) =
          record {
            signal = x.signal;
            named = x.named;
            coded = x.coded;
            code = ap (λ (y : Variable). y.code) (k r.variables v) ∙ x.code;
            width = ap (λ (y : Variable). y.width) (k r.variables v) ∙ x.width;
          }

  known_after : (e : Declaration) → Memᴰ e (d ∷ ds) → Known after e
  known_after e (here k) = rw k known_this
  known_after e (there m) = known_before e (a.known e m)

  widths_after : (s' : Signal) → 0 < (variable_of after s').code → (variable_of after s').width ≡ width_in q.form s'
  unfolding after v known_this
  widths_after s' h = go (compare s s')
    where
      go : Compared s s' → (variable_of (with_variable_of r.variables s v) s').width ≡ width_in q.form s'
      go (same k) = rw (← k) (known_this.width ∙ q.width)
      go (other k) = ap (λ (y : Variable). y.width) (k r.variables v) ∙ q.before s' (rw (k r.variables v) at h)

  pub agrees_declared : Agrees (declaring s r).variables (d ∷ ds)
  unfolding after v
  agrees_declared =
      record {
        held = held_after;
        known = known_after;
        fitting = record { form = q.form; listed = q.listed; widths = widths_after };
        names =
            more
            (λ e m k.
            let x : Known r.variables e = a.known e m in
            not_this e x (name_injective s x.signal (sym p.named ∙ k ∙ x.named)))
            a.names;
        codes =
            more
            (λ e m k.
            let x : Known r.variables e = a.known e m in
            q.unused x.signal (x.code ∙ ap code_of (sym k)))
            a.codes;
      }

-- ---- all five declared

pub complete_declared : (r : Reader) (ds : List Declaration) → all_declared r ≡ true → Agrees r.variables ds → Complete ds
complete_declared r ds e a =
    record {
      form = a.fitting.form;
      listed = a.fitting.listed;
      right =
          λ d m.
          let x : Known r.variables d = a.known d m in
          (x.signal, x.named, sym x.width ∙ a.fitting.widths x.signal (known_declared r.variables d x));
      each = λ s. a.held s (ltb-true 0 (variable r s).code (all_out (declared r) signals e s (every_signal s)));
      names = a.names;
      codes = a.codes;
    }

-- ---- the declaration of a variable, and of a code

pub record Declares (r : Reader) (ds : List Declaration) (s : Signal) : Type 0 where
  pub declaration : Declaration
  pub listed : Memᴰ declaration ds
  pub named : declaration.name ≡ name_of s
  pub coded : is_code declaration.code ≡ true
  pub code : (variable r s).code ≡ code_of declaration.code
  pub width : (variable r s).width ≡ declaration.width

pub declaration_of : (r : Reader) (ds : List Declaration) (s : Signal) → Agrees r.variables ds → 0 < (variable r s).code →
    Declares r ds s
declaration_of r ds s a h =
    let e : (d : Declaration) × Memᴰ d ds × (d.name ≡ name_of s) = a.held s h in
    let x : Known r.variables e.0 = a.known e.0 e.1 in
    let k : x.signal ≡ s = name_injective x.signal s (sym x.named ∙ e.2) in
    record {
      declaration = e.0;
      listed = e.1;
      named = e.2;
      coded = x.coded;
      code = ap (λ (y : Signal). (variable r y).code) (sym k) ∙ x.code;
      width = ap (λ (y : Signal). (variable r y).width) (sym k) ∙ x.width;
    }

-- a word that the reader takes for the code of s is the code of its declaration
pub code_of_lem : (r : Reader) (ds : List Declaration) (s : Signal) (c : List ℕ) → Agrees r.variables ds → has_code r c s ≡ true →
    (x : Declares r ds s) × (c ≡ x.declaration.code)
code_of_lem r ds s c a e =
    let h : 0 < (variable r s).code = ltb-true 0 (variable r s).code (and_l (declared r s) _ e) in
    let k : (variable r s).code ≡ code_of c = eqb-true (variable r s).code (code_of c) (and_r (declared r s) _ e) in
    let x : Declares r ds s = declaration_of r ds s a h in
    (x, code_injective c x.declaration.code (positive_code c (omega (arith, h, k))) x.coded (sym k ∙ x.code))
