-- A text that is read without a fault is derived by the grammar. Assumes nothing.
--   Rest p r ds ws    what the words ws are to the grammar where a reader stands at the place p after the declarations ds
--   derived           each step of the reading is a step of the derivation
use Prim.Native.Nat.{ℕ, ◌<◌, ◌≤◌, min}
use mathlib.Core.Path.{◌≡◌, refl, sym, ap, subst, ◌∙◌}
use mathlib.Core.Logic.{◌≢◌}
use Rattle.std.specs.Prelude.{Option, None, Some}
use mathlib.Core.List.Memᴰ.{head as here}
use mathlib.Core.List.Memᴰ.{tail as there}
use mathlib.Core.List.{List, [], ◌∷◌, tail, Memᴰ}
use mathlib.Core.Bool.{Bool, true, false, not, ◌||◌, cond, true≢false}
use native.Mathlib.Omega.{arith}
use lib.ListN.{length, get_or}
use lib.Dec.{leb}
use borrow.Author.Tests.{leb-true, ltb-true}
use Rattle.lists.proofs.Bools.{and_l, and_r}
use Rattle.recording.specs.declared.Place.{Place}
use Rattle.recording.specs.declared.Place.TheVariants.{Definition, SkipDefinition, Wire, Width, Code, Name, VarEnd, DefinitionsEnd, Body}
use Rattle.recording.specs.declared.Place.TheVariants.{SkipBody, BodyCode, Block, BlockCode}
use Rattle.recording.specs.declared.Signal.{Signal}
use Rattle.recording.specs.declared.Signal.TheVariants.{Stb, Cmd, Core, Arg, Prio}
use Rattle.recording.specs.declared.Variables.{Variables}
use Rattle.recording.specs.declared.Reader.{Reader}
use Rattle.recording.specs.declared.Read.{Read}
use Rattle.recording.specs.Words.{is_text, same_bytes, Word}
use Rattle.recording.specs.Values.{is_decimal, decimal, is_code, code_of, is_bit, bit_of, value_of, vector_of}
use Rattle.recording.specs.Records.{start, variable, at, with_width, with_code, with_vector, with_value, declaring, refused, only}
use Rattle.recording.specs.Declarations.{signals, name_of, signal_of, declared, all_declared, has_code}
use Rattle.recording.specs.Reading.{is_body, is_good, out_of_place, is_skipped, read_definition, read_width, read_code, read_name, is_vector}
use Rattle.recording.specs.Reading.{is_scalar, read_change, vector_signal, read_vector_code, starts_time, is_time, read_time, is_dump, read_body}
use Rattle.recording.specs.Reading.{read_block, read_at, read_word, Progress, progress, advance, read_words, finished}
use Rattle.recording.specs.Faults.{takes_vector, is_change, fits_in, is_declared, declares_well}
use Rattle.recording.specs.Grammar.{Is, Skipped, Declaration, declaration, Change, scalar, vector, Changes, Items, Definitions}
use Rattle.readings.proofs.Codes.{same_bytes_lem, name_injective}
use Rattle.readings.proofs.Lists.{first_out}
use Rattle.readings.proofs.Agreement.{Agrees, agrees_start, agrees_kept, value_kinds, Pends, declares_out, agrees_declared}
use Rattle.readings.proofs.Agreement.{complete_declared, small_widths, Declares, code_of_lem}
use Rattle.readings.proofs.Faults.{good_word}
use Rattle.readings.proofs.Steps.{good_fits, good_finish_body, good_before, Stays, time_stays}

-- ---- what is left to derive, place by place

-- $end, and then what P says
data EndThen (P : List Word → Type 0) : List Word → Type 0 where
  end_then : {w : Word} {ws : List Word} → Is "$end" w → P ws → EndThen P (w ∷ ws)

-- skipped words, and then what P says
data SkipThen (P : List Word → Type 0) (ws : List Word) : Type 0 where
  skip_then : {rest : List Word} → Skipped ws rest → P rest → SkipThen P ws

-- changes up to $end, and then items
data ChangesThen (ds : List Declaration) (ws : List Word) : Type 0 where
  changes_then : {rest : List Word} → Changes ds ws rest → Items ds rest → ChangesThen ds ws

-- a vector that was read, as far as the reader holds it
record Vectored (r : Reader) (w : Word) : Type 0 where
  is_vector_lem : is_vector w.bytes ≡ true
  held : min 255 (length (tail w.bytes)) ≡ r.pending.vector.length

-- a width, a code that were read
record Widened (r : Reader) (w : Word) : Type 0 where
  is_decimal_lem : is_decimal w.bytes ≡ true
  held : min 255 (decimal w.bytes) ≡ r.pending.width

record Coded (r : Reader) (c : Word) : Type 0 where
  is_code_lem : is_code c.bytes ≡ true
  held : code_of c.bytes ≡ r.pending.code

Rest : Place → Reader → List Declaration → List Word → Type 0
Rest Definition r ds ws = Definitions ds ws
Rest SkipDefinition r ds ws = SkipThen (Definitions ds) ws
Rest Wire r ds ws = (v : Word) → Is "$var" v → Definitions ds (v ∷ ws)
Rest Width r ds ws = (v i : Word) → Is "$var" v → Is "wire" i → Definitions ds (v ∷ i ∷ ws)
Rest Code r ds ws = (v i w : Word) → Is "$var" v → Is "wire" i → Widened r w → Definitions ds (v ∷ i ∷ w ∷ ws)
Rest Name r ds ws = (v i w c : Word) → Is "$var" v → Is "wire" i → Widened r w → Coded r c → Definitions ds (v ∷ i ∷ w ∷ c ∷ ws)
Rest VarEnd r ds ws = EndThen (Definitions ds) ws
Rest DefinitionsEnd r ds ws = EndThen (Items ds) ws
Rest Body r ds ws = Items ds ws
Rest SkipBody r ds ws = SkipThen (Items ds) ws
Rest BodyCode r ds ws = (w : Word) → Vectored r w → Items ds (w ∷ ws)
Rest Block r ds ws = ChangesThen ds ws
Rest BlockCode r ds ws = (w : Word) → Vectored r w → ChangesThen ds (w ∷ ws)

-- ---- one word

-- what the rest of the text is to a reader, whatever was declared
Next : List Word → Reader → Type 0
Next ws x = (ds : List Declaration) → Agrees x.variables ds → Rest x.place x ds ws

-- a test that holds says which reader goes on
chosen : (b : Bool) (x y : Reader) (ws : List Word) → b ≡ true → Next ws (cond b x y) → Next ws x
chosen b x y ws e next = subst (Next ws) (ap (λ (k : Bool). cond k x y) e) next

-- a change in a block
in_block : {ds : List Declaration} {ws us : List Word} → Change ds ws us → ChangesThen ds us → ChangesThen ds ws
in_block c (changes_then cs x) = changes_then (Changes.change c cs) x

module _ (r : Reader) (w : Word) (ws : List Word) (ds : List Declaration) (a : Agrees r.variables ds) where
  -- a definition: something to skip, a declaration, or the end
  definition_step : (x : Reader) (s v e d : Bool) → is_skipped w.bytes ≡ s → is_text "$var" w.bytes ≡ v →
      is_text "$enddefinitions" w.bytes ≡ e → all_declared r ≡ d →
      s || v || e ≡ true → s || v || d ≡ true →
      Next ws (cond s (at SkipDefinition r) (cond v (at Wire r) (cond (not e) (out_of_place w r) (cond d (at DefinitionsEnd r) x)))) →
      Definitions ds (w ∷ ws)
  unfolding Next Rest
  definition_step x true v e d ps pv pe pd f g next = go (next ds a)
    where
      go : SkipThen (Definitions ds) ws → Definitions ds (w ∷ ws)
      go (skip_then s y) = Definitions.skip ps s y
  definition_step x false true e d ps pv pe pd f g next = next ds a w pv
  definition_step x false false true true ps pv pe pd f g next = go ws (next ds a)
    where
      go : (us : List Word) → EndThen (Items ds) us → Definitions ds (w ∷ us)
      go us (end_then h y) = Definitions.end pe h (complete_declared r ds pd a) y
  definition_step x false false true false ps pv pe pd f g next = absurd (true≢false (sym g))
  definition_step x false false false d ps pv pe pd f g next = absurd (true≢false (sym f))

  -- a name: the variable that it names is declared
  name_step : (o : Option Signal) → signal_of w.bytes ≡ o → is_declared o r ≡ true → Next ws (read_name o r w) → Rest Name r ds (w ∷ ws)
  unfolding Next Rest read_name
  name_step None e f next v i x c pv pi px pc = absurd (true≢false (sym f))
  name_step (Some s) e f next v i x c pv pi px pc =
      close ws (subst (Next ws) (ap (λ (b : Bool). cond b (at VarEnd (declaring s r)) (refused 12 w.at r)) f) next (d ∷ ds)
      (agrees_declared r ds s d pends (declares_out r s d pends f) a))
    where
      d : Declaration
      d = declaration w.bytes (decimal x.bytes) c.bytes

      pends : Pends r s d
      pends =
          record {
            named = same_bytes_lem w.bytes (name_of s) (first_out (λ s'. same_bytes w.bytes (name_of s')) signals s e).1;
            width = px.held;
            coded = pc.is_code_lem;
            code = pc.held;
          }

      close : (us : List Word) → EndThen (Definitions (d ∷ ds)) us → Definitions ds (v ∷ i ∷ x ∷ c ∷ w ∷ us)
      close us (end_then h y) = Definitions.var pv pi px.is_decimal_lem pc.is_code_lem h y

  -- a change of stb
  scalar_step : is_scalar r w.bytes ≡ true → Change ds (w ∷ ws) ws
  scalar_step e = go w.bytes refl e
    where
      go : (bs : List ℕ) → w.bytes ≡ bs → is_scalar r bs ≡ true → Change ds (w ∷ ws) ws
      go [] p h = absurd (true≢false (sym h))
      go (b ∷ bs) p h =
          let x : (x : Declares r ds Stb) × (bs ≡ x.declaration.code) = code_of_lem r ds Stb bs a (and_r (is_bit b) (has_code r bs Stb) h) in
          scalar x.0.declaration b x.0.listed x.0.named (and_l (is_bit b) (has_code r bs Stb) h)
          (p ∙ ap (λ (l : List ℕ). b ∷ l) x.1)

-- ---- the code of a vector

is_stb : Signal → Bool
is_stb Stb = true
is_stb Cmd = false
is_stb Core = false
is_stb Arg = false
is_stb Prio = false

vector_signal_lem : (s : Signal) → Memᴰ s (Cmd ∷ Core ∷ Arg ∷ Prio ∷ []) → is_stb s ≡ false
unfolding is_stb
vector_signal_lem s (here e) = ap is_stb e
vector_signal_lem s (there (here e)) = ap is_stb e
vector_signal_lem s (there (there (here e))) = ap is_stb e
vector_signal_lem s (there (there (there (here e)))) = ap is_stb e
vector_signal_lem s (there (there (there (there m)))) = absurd (mathlib.Core.List.Memᴰ.not-nil m)

not_stb : (s : Signal) → Memᴰ s (Cmd ∷ Core ∷ Arg ∷ Prio ∷ []) → name_of s ≢ name_of Stb
unfolding is_stb
not_stb s m e = true≢false (sym (ap is_stb (name_injective s Stb e)) ∙ vector_signal_lem s m)

module _ (r : Reader) (c : Word) (ws : List Word) (ds : List Declaration) (a : Agrees r.variables ds) (w : Word) (v : Vectored r w) where
  vector_step : (o : Option Signal) → vector_signal r c.bytes ≡ o → takes_vector o r ≡ true → Change ds (w ∷ c ∷ ws) ws
  vector_step None e t = absurd (true≢false (sym t))
  vector_step (Some s) e t =
      let f : Memᴰ s (Cmd ∷ Core ∷ Arg ∷ Prio ∷ []) × (has_code r c.bytes s ≡ true) =
      first_out (has_code r c.bytes) (Cmd ∷ Core ∷ Arg ∷ Prio ∷ []) s e in
      let x : (x : Declares r ds s) × (c.bytes ≡ x.declaration.code) = code_of_lem r ds s c.bytes a f.1 in
      let h : 0 < (variable r s).code = ltb-true 0 (variable r s).code (and_l (declared r s) _ f.1) in
      let l : r.pending.vector.length ≤ (variable r s).width = leb-true r.pending.vector.length (variable r s).width t in
      let k : length (tail w.bytes) ≤ x.0.declaration.width =
      omega (arith, l, v.held, x.0.width, a.fitting.widths s h, small_widths a.fitting.form a.fitting.listed s) in
      vector x.0.declaration x.0.listed (λ p. not_stb s f.0 (sym x.0.named ∙ p)) v.is_vector_lem k x.1

-- ---- each place. A test stands beside its value, so that the clause says which reader goes on.

module _ (r : Reader) (w : Word) (ws : List Word) (ds : List Declaration) (a : Agrees r.variables ds) where
  -- a change, in a place `p` to which the next word returns, or `q` for a code
  change_step : (p q : Place) (T : List Word → Type 0) → (Change ds (w ∷ ws) ws → T ws → T (w ∷ ws)) →
      ((x : Reader) → Agrees x.variables ds → Next ws (at p x) → T ws) →
      ((x : Reader) → Agrees x.variables ds → Next ws (at q x) → Vectored (at q x) w → T (w ∷ ws)) →
      (v s : Bool) → is_vector w.bytes ≡ v → is_scalar r w.bytes ≡ s → v || s ≡ true →
      Next ws (cond v (at q (with_vector (vector_of (tail w.bytes)) r))
      (cond s (at p (with_value Stb (value_of (bit_of (get_or w.bytes 0 0) ∷ [])) r)) (out_of_place w r))) → T (w ∷ ws)
  unfolding vector_of
  change_step p q T add plain coded true s ev es e next =
      coded (with_vector (vector_of (tail w.bytes)) r) a next (record { is_vector_lem = ev; held = refl })
  change_step p q T add plain coded false true ev es e next =
      add (scalar_step r w ws ds a es)
      (plain (with_value Stb (value_of (bit_of (get_or w.bytes 0 0) ∷ [])) r)
      (agrees_kept r.variables _ ds (value_kinds r Stb (value_of (bit_of (get_or w.bytes 0 0) ∷ []))) a) next)
  change_step p q T add plain coded false false ev es e next = absurd (true≢false (sym e))

  -- the code of a vector is followed by what follows in its place
  code_next : (p : Place) (T : Type 0) → ((x : Reader) → Agrees x.variables ds → Next ws (at p x) → T) →
      (o : Option Signal) → takes_vector o r ≡ true → Next ws (read_vector_code p o r w) → T
  unfolding read_vector_code
  code_next p T plain None t next = absurd (true≢false (sym t))
  code_next p T plain (Some s) t next =
      plain (with_value s r.pending.vector.value r) (agrees_kept r.variables _ ds (value_kinds r s r.pending.vector.value) a)
      (chosen (leb r.pending.vector.length (variable r s).width) (at p (with_value s r.pending.vector.value r))
      (out_of_place w r) ws t next)

  -- a word that is skipped, or the $end of what is skipped
  skip_step : (pl : Place) (T : List Word → Type 0) (b : Bool) → is_text "$end" w.bytes ≡ b →
      (Next ws r → SkipThen T ws) → (Next ws (at pl r) → T ws) → Next ws (cond b (at pl r) r) → SkipThen T (w ∷ ws)
  skip_step pl T true e inside after next = skip_then (Skipped.ends e) (after next)
  skip_step pl T false e inside after next = go (inside next)
    where
      go : SkipThen T ws → SkipThen T (w ∷ ws)
      go (skip_then s x) = skip_then (Skipped.passes e s) x

  block_step : (b : Bool) → is_text "$end" w.bytes ≡ b → b || is_change r w.bytes ≡ true →
      Next ws (cond b (at Body r) (read_change Block BlockCode r w)) → ChangesThen ds (w ∷ ws)
  unfolding read_change Next Rest
  block_step true e f next = changes_then (Changes.ends e) (next ds a)
  block_step false e f next =
      change_step Block BlockCode (ChangesThen ds) (λ c x. in_block c x) (λ x k n. n ds k) (λ x k n v. n ds k w v)
      (is_vector w.bytes) (is_scalar r w.bytes) refl refl f next

  -- a time leaves place and variables as they are
  time_step : r.place ≡ Body → is_time w.bytes ≡ true → Next ws (read_time r w).reader → Items ds (w ∷ ws)
  unfolding Next Rest
  time_step e t next =
      let s : Stays r (read_time r w).reader = time_stays r w in
      Items.time t
      (subst (λ (q : Place). Rest q (read_time r w).reader ds ws) (s.place ∙ e)
      (next ds (subst (λ (vs : Variables). Agrees vs ds) (sym s.variables) a)))

  body_step : r.place ≡ Body → (t c d : Bool) → starts_time w.bytes ≡ t → is_text "$comment" w.bytes ≡ c → is_dump w.bytes ≡ d →
      cond t (is_time w.bytes) (c || d || is_change r w.bytes) ≡ true →
      Next ws (cond t (read_time r w) (cond c (only (at SkipBody r))
      (cond d (only (at Block r)) (only (read_change Body BodyCode r w))))).reader → Items ds (w ∷ ws)
  unfolding read_change Next Rest
  body_step e true c d et ec ed f next = time_step e f next
  body_step e false true d et ec ed f next = go (next ds a)
    where
      go : SkipThen (Items ds) ws → Items ds (w ∷ ws)
      go (skip_then s x) = Items.comment ec s x
  body_step e false false true et ec ed f next = go (next ds a)
    where
      go : ChangesThen ds ws → Items ds (w ∷ ws)
      go (changes_then c x) = Items.dump ed c x
  body_step e false false false et ec ed f next =
      change_step Body BodyCode (Items ds) (λ c x. Items.change c x) (λ x k n. n ds k) (λ x k n v. n ds k w v) (is_vector w.bytes)
      (is_scalar r w.bytes) refl refl f next

  place_step : (p : Place) → r.place ≡ p → fits_in p r w.bytes ≡ true → declares_well p r w.bytes ≡ true →
      Next ws (read_at p r w).reader → Rest p r ds (w ∷ ws)
  unfolding read_at read_definition read_width read_code read_body read_block fits_in declares_well Next Rest
  place_step Definition e f d next =
      definition_step r w ws ds a (refused 12 w.at r) (is_skipped w.bytes) (is_text "$var" w.bytes)
      (is_text "$enddefinitions" w.bytes) (all_declared r) refl refl refl refl f d next
  place_step SkipDefinition e f d next =
      skip_step Definition (Definitions ds) (is_text "$end" w.bytes) refl (λ n. subst (λ (q : Place). Rest q r ds ws) e (n ds a))
      (λ n. n ds a) next
  place_step Wire e f d next = λ v pv. chosen (is_text "wire" w.bytes) (at Width r) (out_of_place w r) ws f next ds a v w pv f
  place_step Width e f d next =
      λ v i pv pi.
      chosen (is_decimal w.bytes) (at Code (with_width (min 255 (decimal w.bytes)) r)) (out_of_place w r) ws f next ds a v i w pv pi
      (record { is_decimal_lem = f; held = refl })
  place_step Code e f d next =
      λ v i x pv pi px.
      chosen (is_code w.bytes) (at Name (with_code (code_of w.bytes) r)) (out_of_place w r) ws f next ds a v i x w pv pi
      (record { is_decimal_lem = px.is_decimal_lem; held = px.held }) (record { is_code_lem = f; held = refl })
  place_step Name e f d next = name_step r w ws ds a (signal_of w.bytes) refl d next
  place_step VarEnd e f d next = end_then f (chosen (is_text "$end" w.bytes) (at Definition r) (out_of_place w r) ws f next ds a)
  place_step DefinitionsEnd e f d next = end_then f (chosen (is_text "$end" w.bytes) (at Body r) (out_of_place w r) ws f next ds a)
  place_step Body e f d next =
      body_step e (starts_time w.bytes) (is_text "$comment" w.bytes) (is_dump w.bytes) refl refl refl f next
  place_step SkipBody e f d next =
      skip_step Body (Items ds) (is_text "$end" w.bytes) refl (λ n. subst (λ (q : Place). Rest q r ds ws) e (n ds a)) (λ n. n ds a) next
  place_step BodyCode e f d next =
      λ x v.
      Items.change (vector_step r w ws ds a x v (vector_signal r w.bytes) refl f)
      (code_next Body (Items ds ws) (λ y k n. n ds k) (vector_signal r w.bytes) f next)
  place_step Block e f d next = block_step (is_text "$end" w.bytes) refl f next
  place_step BlockCode e f d next =
      λ x v.
      in_block (vector_step r w ws ds a x v (vector_signal r w.bytes) refl f)
      (code_next Block (ChangesThen ds ws) (λ y k n. n ds k) (vector_signal r w.bytes) f next)

-- ---- the whole text

at_end : (r : Reader) (ds : List Declaration) (p : Place) → is_body p ≡ true → Rest p r ds []
unfolding Rest
at_end r ds Definition e = absurd (true≢false (sym e))
at_end r ds SkipDefinition e = absurd (true≢false (sym e))
at_end r ds Wire e = absurd (true≢false (sym e))
at_end r ds Width e = absurd (true≢false (sym e))
at_end r ds Code e = absurd (true≢false (sym e))
at_end r ds Name e = absurd (true≢false (sym e))
at_end r ds VarEnd e = absurd (true≢false (sym e))
at_end r ds DefinitionsEnd e = absurd (true≢false (sym e))
at_end r ds Body e = Items.done
at_end r ds SkipBody e = absurd (true≢false (sym e))
at_end r ds BodyCode e = absurd (true≢false (sym e))
at_end r ds Block e = absurd (true≢false (sym e))
at_end r ds BlockCode e = absurd (true≢false (sym e))

derived : (n : ℕ) (ws : List Word) (p : Progress) → is_good (finished n (read_words p ws)).reader ≡ true → (ds : List Declaration) →
    Agrees p.reader.variables ds → Rest p.reader.place p.reader ds ws
unfolding read_words advance finished Next
derived n [] p g ds a = at_end p.reader ds p.reader.place (good_finish_body n p.reader (good_before n p [] g) g)
derived n (w ∷ ws) p g ds a =
    let r : Reader = p.reader in
    let b : is_good r ≡ true = good_before n p (w ∷ ws) g in
    let f : (fits_in r.place r w.bytes ≡ true) × (declares_well r.place r w.bytes ≡ true) =
    good_fits r w b (good_before n (advance p.commands (read_word r w)) ws g) in
    place_step r w ws ds a r.place refl f.0 f.1
    (subst (λ (x : Read). Next ws x.reader) (good_word r w b) (derived n ws (advance p.commands (read_word r w)) g))

pub read_derived : (n : ℕ) (ws : List Word) → is_good (finished n (read_words (progress start []) ws)).reader ≡ true → Definitions [] ws
unfolding Rest
read_derived n ws g = derived n ws (progress start []) g [] agrees_start
