-- What changes and times do where a change may stand. Assumes nothing.
--   names_cmd, .., names_prio    the first variable with a code
--   places_some                  a vector's code names a variable that takes the vector
--   coded_vector                 bits from an offset on and the code that follows them
--   follows_vector, follows_level, follows_time    a whole change, or a time, that gives no command
--   passes_vector, passes_level, passes_time, passes_turn    the same, of a reader where changes may stand
--   takes_command                a time that gives a command
use Prim.Native.Nat.{ℕ, ◌+◌, ◌-◌, ◌<◌, ◌≤◌, min}
use mathlib.Core.Path.{◌≡◌, refl, sym, ap, subst, ◌∙◌}
use Rattle.std.specs.Prelude.{Option, Some, None}
use mathlib.Core.List.{List, [], ◌∷◌, map}
use mathlib.Core.Bool.{Bool, true, false, not, ◌&&◌, ◌||◌, cond, and-false}
use lib.ListN.{length, get_or}
use lib.Dec.{ltb, leb, eqb}
use native.Mathlib.Omega.{arith}
use borrow.Author.Tests.{lt-ltb, lt-leb, eq-eqb, ne_eqb, eqb-true}
use Rattle.lists.proofs.Bools.{and_in, or_off, Flag, on, off, flag}
use Rattle.recording.specs.declared.Place.{Place}
use Rattle.recording.specs.declared.Place.TheVariants.{Body, BodyCode, BlockCode}
use Rattle.recording.specs.declared.Signal.{Signal}
use Rattle.recording.specs.declared.Signal.TheVariants.{Stb, Cmd, Core, Arg, Prio}
use Rattle.recording.specs.declared.Variable.{Variable}
use Rattle.recording.specs.declared.Variables.{Variables}
use Rattle.recording.specs.declared.Vector.{Vector}
use Rattle.recording.specs.declared.Reader.{Reader}
use Rattle.recording.specs.Words.{separator, word_with, all}
use Rattle.recording.specs.Values.{is_bit, is_definite, bit_of, bit_number, numeral, value_of, vector_of, code_of}
use Rattle.recording.specs.Records.{variable, variable_of, variable_with, with_variable_of, at, with_vector, with_up}
use Rattle.recording.specs.Records.{with_time, read_with, only}
use Rattle.recording.specs.Declarations.{has_code}
use Rattle.recording.specs.Stamps.{is_readable, strobe_of, end_stamp, end_open_stamp}
use Rattle.recording.specs.Reading.{read_word, read_at, read_body, read_block, read_change, is_vector, vector_signal, read_vector_code, is_time}
use Rattle.recording.specs.Reading.{time_of, open_stamp, and_then, read_time}
use Rattle.vcd_words.specs.declared.Number.TheVariants.{Binary}
use Rattle.vcd_words.specs.Partial.{in_16, more_bits, kept_value, vector_with}
use Rattle.vcd_words.proofs.Bytes.{above_separators, run_more}
use Rattle.vcd_words.proofs.Sums.{bits_of, bits_sum}
use Rattle.vcd_reader.specs.declared.Bits.{Bits}
use Rattle.vcd_reader.specs.declared.Coded.{Coded}
use Rattle.vcd_reader.specs.declared.Given.{Given}
use Rattle.vcd_reader.specs.declared.Timed.{Timed}
use Rattle.vcd_reader.specs.declared.Turned.{Turned}
use Rattle.vcd_reader.specs.Advances.{Follows}
use Rattle.vcd_reader.specs.Runs.{word_from, BitsThere, CodeThere, TimeThere, Skips}
use Rattle.vcd_reader.specs.Skipping.{change_place, in_block, Turns}
use Rattle.vcd_reader.specs.Changes.{with_variables, CodedVector, Places}
use Rattle.vcd_reader.specs.Changes.{QuietTime, MayChange, QuietWord, with_level, after_command, Takes}
use Rattle.vcd_reader.proofs.Follows.{follows_then, follows_passes, follows_skips, follows_word, word_within}
use Rattle.vcd_reader.proofs.Reaching.{word_inside, word_starts, other_byte, bit_range}

-- ---- the variable of a code

module _ (r : Reader) (w : List ℕ) (s : Signal) where
  pub has_code_lem : 0 < code_of w → (variable r s).code ≡ code_of w → has_code r w s ≡ true
  has_code_lem h e = and_in (lt-ltb 0 (variable r s).code (omega arith)) (eq-eqb (variable r s).code (code_of w) e)

  pub has_other : ((variable r s).code ≡ code_of w → ⊥) → has_code r w s ≡ false
  has_other h = rw (ne_eqb (variable r s).code (code_of w) h, and-false)

-- the first variable with a code
abbrev pub IsCodeOf : Variables → ℕ → Signal → Type 0
IsCodeOf vs code s = (r : Reader) (w : List ℕ) → r.variables ≡ vs → code ≡ code_of w → vector_signal r w ≡ Some s

module _ (vs : Variables) (code : ℕ) (h : code ≡ 0 → ⊥) where
  -- the code of a variable, or of another
  has : (s : Signal) → code ≡ (variable_of vs s).code → (r : Reader) (w : List ℕ) → r.variables ≡ vs → code ≡ code_of w →
      has_code r w s ≡ true
  has s e r w er ec = has_code_lem r w s (omega arith) (ap (λ (x : Variables). (variable_of x s).code) er ∙ sym e ∙ ec)

  lacks : (s : Signal) → (code ≡ (variable_of vs s).code → ⊥) → (r : Reader) (w : List ℕ) → r.variables ≡ vs → code ≡ code_of w →
      has_code r w s ≡ false
  lacks s k r w er ec = has_other r w s (λ e. k (ec ∙ sym e ∙ ap (λ (x : Variables). (variable_of x s).code) er))

  pub names_cmd : code ≡ vs.cmd.code → IsCodeOf vs code Cmd
  names_cmd e r w er ec = rw (has Cmd e r w er ec)

  module _ (no-cmd : code ≡ vs.cmd.code → ⊥) where
    pub names_core_lem : code ≡ vs.core.code → IsCodeOf vs code Core
    names_core_lem e r w er ec = rw (lacks Cmd no-cmd r w er ec, has Core e r w er ec)

    module _ (no_such_core : code ≡ vs.core.code → ⊥) where
      pub names_arg : code ≡ vs.arg.code → IsCodeOf vs code Arg
      names_arg e r w er ec = rw (lacks Cmd no-cmd r w er ec, lacks Core no_such_core r w er ec, has Arg e r w er ec)

      pub names_prio : (code ≡ vs.arg.code → ⊥) → code ≡ vs.prio.code → IsCodeOf vs code Prio
      names_prio no-arg e r w er ec =
          rw (lacks Cmd no-cmd r w er ec, lacks Core no_such_core r w er ec, lacks Arg no-arg r w er ec, has Prio e r w er ec)

-- a variable with a code takes the vector, if it isn't longer
pub places_some :
    (vs : Variables) (code : ℕ) (v : Vector) (s : Signal) (x : Variable) (fits : Bool) → (code ≡ 0 → ⊥) → IsCodeOf vs code s →
    fits ≡ leb v.length (variable_of vs s).width →
    x ≡ cond fits (variable_with (variable_of vs s).code (variable_of vs s).width v.value) (variable_of vs s) →
    fits ≡ true → Places vs code v (with_variable_of vs s x)
unfolding read_vector_code
places_some vs code v s x fits h named ef ex f =
    record { some = omega arith; takes = λ to r i w er ev ec. go to r i w er ev (named r w er ec) (sym ef ∙ f) (rw f at ex) }
  where
    go : (to : Place) (r : Reader) (i : ℕ) (w : List ℕ) → r.variables ≡ vs → r.pending.vector ≡ v →
        vector_signal r w ≡ Some s → leb v.length (variable_of vs s).width ≡ true →
        x ≡ variable_with (variable_of vs s).code (variable_of vs s).width v.value →
        read_vector_code to (vector_signal r w) r (word_with i w) ≡ with_variables (with_variable_of vs s x) (at to r)
    go to r i w er ev es el ex' =
        let el' : leb r.pending.vector.length (variable_of r.variables s).width ≡ true = rw (er, ev) el in
        rw (es, ex', ← er, ← ev, el')

-- ---- a vector with its code

-- bits, and their number if they are all known
module _ (u : List ℕ) (n : Option ℕ) (e : more_bits (Some 0) u ≡ Some (Binary n)) where
  sum : bits_of true 0 u ≡ Some (Binary n)
  sum = sym (bits_sum u) ∙ e

  all_bits : all is_bit u ≡ true
  all_bits = go (flag (all is_bit u)) sum
    where
      go : Flag (all is_bit u) → bits_of true 0 u ≡ Some (Binary n) → all is_bit u ≡ true
      go (on f) g = f
      go (off f) g = let no : None ≡ Some (Binary n) = rw f at g in absurd cc

  number : in_16 (all is_definite (map bit_of u)) (numeral 2 0 (map bit_number (map bit_of u))) ≡ n
  number = let full = rw all_bits at sum in cc

  vector_given : vector_with (min 255 (length u)) (kept_value n) ≡ vector_of u
  unfolding vector_of value_of
  vector_given = rw (← number) (go (flag (all is_definite (map bit_of u))))
    where
      go : Flag (all is_definite (map bit_of u)) →
          vector_with (min 255 (length u))
          (kept_value (in_16 (all is_definite (map bit_of u)) (numeral 2 0 (map bit_number (map bit_of u))))) ≡ vector_of u
      go (on f) = rw f
      go (off f) = rw f

-- a word that is a code has a byte
code_some : (w : List ℕ) → 0 < code_of w → w ≡ [] → ⊥
unfolding code_of
code_some w h e = let none : code_of w ≡ 0 = ap code_of e in omega arith

some_bits : (u : List ℕ) → 0 < length u → all is_bit u ≡ true → is_vector (98 ∷ u) ≡ true
some_bits [] h e = absurd (omega arith)
some_bits (b ∷ u) h e = e

module _ (t : List ℕ) (from : ℕ) where
  pub coded_vector :
      (b : Bits) (i : ℕ) (c : Coded) (v : Vector) (end : ℕ) →
      BitsThere t from b → b.end - from ≤ 255 → Skips t b.end i → CodeThere t i c →
      v ≡ vector_with (b.end - from) (kept_value b.number) → Skips t c.end end →
      CodedVector t from (record { end = end; code = c.code; vector = v })
  coded_vector b i c v end o short s k ev s' =
      let u = word_from t from in
      let there : 0 < code_of (word_from t i) = omega (arith, k.some, k.code) in
      let ends : b.end ≡ from + length u = o.end in
      let count : b.end - from ≡ min 255 (length u) = omega arith in
      let some = code_some (word_from t i) there in
      let inside = word_inside t i some in
      let starts = word_starts t i some in
      record {
        at = i;
        bits = some_bits u (omega (arith, o.some)) (all_bits u b.number o.number);
        vector = rw (ev, count) (vector_given u b.number o.number);
        passes = rw (← ends) s.passes;
        later = omega (arith, s.moves);
        inside = inside;
        starts = starts;
        some = k.some;
        code = k.code;
        rest = rw (← k.end) s'.passes;
        moves = omega (arith, k.end, s'.moves);
        within = s'.within (word_within t i inside starts c.end k.end);
      }

-- ---- what words do

abbrev pub is_binary : ℕ → Bool
is_binary b = eqb b 98 || eqb b 66

binary_range : (b : ℕ) → is_binary b ≡ true → 32 < b
binary_range b e = go (flag (eqb b 98))
  where
    go : Flag (eqb b 98) → 32 < b
    go (on f) = omega (arith, eqb-true b 98 f)
    go (off f) = omega (arith, eqb-true b 66 (or_off (eqb b 98) (eqb b 66) e f))

-- where the code of a vector is due, in a block or not
abbrev code_place : Bool → Place
code_place true = BlockCode
code_place false = BodyCode

module _ (r : Reader) (i : ℕ) (u : List ℕ) (good : r.fault.number ≡ 0) where
  read_code_lem :
      (block : Bool) →
      read_word (at (code_place block) r) (word_with i u) ≡
      only (read_vector_code (change_place block) (vector_signal (at (code_place block) r) u) (at (code_place block) r) (word_with i u))
  unfolding read_word read_at
  read_code_lem true = rw (eq-eqb _ _ good)
  read_code_lem false = rw (eq-eqb _ _ good)

  -- a word that begins with neither # nor $
  read_change_lem :
      (block : Bool) → r.place ≡ change_place block → (b : ℕ) → eqb b 35 ≡ false → eqb b 36 ≡ false →
      read_word r (word_with i (b ∷ u)) ≡ only (read_change (change_place block) (code_place block) r (word_with i (b ∷ u)))
  unfolding read_word read_at read_body read_block
  read_change_lem true pl b no_hash no_dollar = rw (eq-eqb _ _ good, pl, no_dollar)
  read_change_lem false pl b no_hash no_dollar = rw (eq-eqb _ _ good, pl, no_hash, no_dollar)

  module _ (block : Bool) (pl : r.place ≡ change_place block) where
    read_vector :
        (b : ℕ) → is_binary b ≡ true → is_vector (98 ∷ u) ≡ true →
        read_word r (word_with i (b ∷ u)) ≡ only (at (code_place block) (with_vector (vector_of u) r))
    unfolding read_change
    read_vector b k e =
        read_change_lem block pl b (other_byte is_binary b 35 k refl) (other_byte is_binary b 36 k refl) ∙ rw (k, e)

    read_level :
        (b : ℕ) → is_bit b ≡ true → has_code r u Stb ≡ true →
        read_word r (word_with i (b ∷ u)) ≡ only (with_variables (with_level r.variables b) (at (change_place block) r))
    unfolding read_change
    read_level b e k =
        read_change_lem block pl b (other_byte is_bit b 35 e refl) (other_byte is_bit b 36 e refl)
        ∙ rw (other_byte is_bit b 98 e refl, other_byte is_bit b 66 e refl, e, k)

  read_hash : r.place ≡ Body → read_word r (word_with i (35 ∷ u)) ≡ read_time r (word_with i (35 ∷ u))
  unfolding read_word read_at read_body
  read_hash pl = rw (eq-eqb _ _ good, pl)

-- a time at the end of an open stamp
module _ (r : Reader) (i : ℕ) (w : List ℕ) (time : ℕ) (good : r.fault.number ≡ 0) (e : is_time w ≡ true) (et : time ≡ time_of w)
    (opened : r.stamp.opened ≡ true) (known : r.variables.stb.value.known ≡ true) (later : r.stamp.time < time) where
  later_word : ltb r.stamp.time (time_of w) ≡ true
  later_word = lt-ltb r.stamp.time (time_of w) (omega arith)

  time_quiet :
      (eqb r.variables.stb.value.number 1 && not r.stamp.up) ≡ false →
      read_time r (word_with i w) ≡ only (with_time time (with_up (eqb r.variables.stb.value.number 1) r))
  unfolding read_time and_then end_open_stamp end_stamp open_stamp
  time_quiet q = rw (opened, known, q, eq-eqb _ _ good, e, later_word, et)

  time_taken :
      r.variables.stb.value.number ≡ 1 → r.stamp.up ≡ false → is_readable r ≡ true → r.taken < 65535 →
      read_time r (word_with i w) ≡ read_with (after_command r time) (Some (strobe_of r))
  unfolding read_time and_then end_open_stamp end_stamp open_stamp is_readable strobe_of
  time_taken n up readable room =
      rw (opened, known, eq-eqb _ _ n, up, readable, lt-leb 65535 r.taken room, eq-eqb _ _ good, e, later_word, et)

pub takes_all :
    (r : Reader) (time : ℕ) → r.stamp.opened ≡ true → r.variables.stb.value.known ≡ true → r.variables.stb.value.number ≡ 1 →
    r.stamp.up ≡ false → r.stamp.time < time → r.taken < 65535 → is_readable r ≡ true → Takes r time
takes_all r time opened known n up later room readable =
    record { room = room; gives = λ good i w e et. time_taken r i w time good e et opened known later n up readable room }

-- ---- a text read on

module _ (t : List ℕ) (i : ℕ) (h : i < length t) where
  module _ (b : ℕ) (eb : get_or t i 0 ≡ b) (above : 32 < b) where
    pub starts_word : separator (get_or t i 0) ≡ false
    starts_word = rw eb (above_separators b above)

    pub word_first : word_from t i ≡ b ∷ word_from t (i + 1)
    word_first = run_more t i h starts_word ∙ ap (λ (x : ℕ). x ∷ word_from t (i + 1)) eb

    pub first_end : (end : ℕ) → end ≡ i + 1 + length (word_from t (i + 1)) → end ≡ i + length (word_from t i)
    first_end end e = omega (arith, ap length word_first)

    follows_first :
        (end : ℕ) (r r' : Reader) → end ≡ i + 1 + length (word_from t (i + 1)) →
        read_word r (word_with i (b ∷ word_from t (i + 1))) ≡ only r' → Follows t i r end r'
    follows_first end r r' e g =
        follows_word t i h starts_word end (first_end end e) r r' (ap (λ (w : List ℕ). read_word r (word_with i w)) word_first ∙ g)

    -- a word, and the separators after it
    follows_skip :
        (end end' : ℕ) (r r' : Reader) → end ≡ i + 1 + length (word_from t (i + 1)) → Skips t end end' →
        read_word r (word_with i (b ∷ word_from t (i + 1))) ≡ only r' → Follows t i r end' r'
    follows_skip end end' r r' e s g =
        follows_then t (follows_first end r r' e g) (follows_skips t end end' r' s)

  module _ (r : Reader) (block : Bool) (pl : r.place ≡ change_place block) (good : r.fault.number ≡ 0) where
    -- the place stays
    stays : {end : ℕ} (f : Reader → Reader) → Follows t i r end (f (at (change_place block) r)) → Follows t i r end (f r)
    stays {end} f k = subst (λ (x : Place). Follows t i r end (f (at x r))) (sym pl) k

    pub follows_vector :
        (b : ℕ) (g : Given) (vs : Variables) → get_or t i 0 ≡ b → is_binary b ≡ true → CodedVector t (i + 1) g →
        Places r.variables g.code g.vector vs → Follows t i r g.end (with_variables vs (with_vector g.vector r))
    follows_vector b g vs eb k v q =
        let u = word_from t (i + 1) in
        let mid = i + 1 + length u in
        let code = word_from t v.at in
        let over = v.at + length code in
        let r₁ = at (code_place block) (with_vector g.vector r) in
        let r₂ = with_variables vs (at (change_place block) (with_vector g.vector r)) in
        stays (λ (x : Reader). with_variables vs (with_vector g.vector x))
        (follows_then t
        (follows_first b eb (binary_range b k) mid r r₁ refl
        (read_vector r i u good block pl b k v.bits
        ∙ ap (λ (x : Vector). only (at (code_place block) (with_vector x r))) (sym v.vector)))
        (follows_then t (follows_passes t mid v.at r₁ v.later (λ x. omega (arith, v.inside)) v.passes)
        (follows_then t
        (follows_word t v.at v.inside v.starts over refl r₁ r₂
        (read_code_lem (with_vector g.vector r) v.at code good block
        ∙ ap only (q.takes (change_place block) r₁ v.at code refl refl v.code)))
        (follows_passes t over g.end r₂ v.moves (λ x. v.within) v.rest))))

    pub follows_level :
        (b : ℕ) (c : Coded) (end : ℕ) → get_or t i 0 ≡ b → is_bit b ≡ true → CodeThere t (i + 1) c →
        r.variables.stb.code ≡ c.code → Skips t c.end end → Follows t i r end (with_variables (with_level r.variables b) r)
    follows_level b c end eb k there same s =
        let some : 0 < code_of (word_from t (i + 1)) = omega (arith, there.some, there.code) in
        stays (λ (x : Reader). with_variables (with_level r.variables b) x)
        (follows_skip b eb (bit_range b k) c.end end r _ there.end s
        (read_level r i (word_from t (i + 1)) good block pl b k (has_code_lem r (word_from t (i + 1)) Stb some (same ∙ there.code))))

  module _ (r : Reader) (pl : r.place ≡ Body) (good : r.fault.number ≡ 0) where
    module _ (a : Timed) (eb : get_or t i 0 ≡ 35) (there : TimeThere t (i + 1) a) where
      is_time_lem : is_time (35 ∷ word_from t (i + 1)) ≡ true
      is_time_lem = and_in there.digits there.fits

      pub takes_command : Takes r a.time → read_with (after_command r a.time) (Some (strobe_of r)) ≡ read_word r (word_with i (word_from t i))
      takes_command k =
          sym
          (ap (λ (w : List ℕ). read_word r (word_with i w)) (word_first 35 eb (omega arith))
          ∙ read_hash r i (word_from t (i + 1)) good pl
          ∙ k.gives good i (35 ∷ word_from t (i + 1)) is_time_lem there.time)

    pub follows_time :
        (a : Timed) (end : ℕ) → get_or t i 0 ≡ 35 → QuietTime t (i + 1) r a → Skips t a.end end →
        Follows t i r end (with_time a.time (with_up (eqb r.variables.stb.value.number 1) r))
    follows_time a end eb q s =
        follows_skip 35 eb (omega arith) a.end end r _ q.there.end s
        (read_hash r i (word_from t (i + 1)) good pl
        ∙ time_quiet r i (35 ∷ word_from t (i + 1)) a.time good (is_time_lem a eb q.there) q.there.time q.is_open q.known
        q.later q.quiet)

-- ---- one after another

-- where changes may stand, one leaves the reader
module _ (t : List ℕ) (i : ℕ) (h : i < length t) (r : Reader) (m : MayChange r) where
  pub passes_vector :
      (b : ℕ) (g : Given) (vs : Variables) → get_or t i 0 ≡ b → is_binary b ≡ true → CodedVector t (i + 1) g →
      Places r.variables g.code g.vector vs → QuietWord t i r g.end (with_variables vs (with_vector g.vector r))
  passes_vector b g vs eb k v q =
      record {
        inside = h;
        moves = omega (arith, v.later, v.moves);
        quiet =
            record {
              follows = follows_vector t i h r (in_block r.place) m.place m.good b g vs eb k v q;
              changes = record { place = m.place; good = m.good };
            };
      }

  pub passes_level :
      (b : ℕ) (c : Coded) (end : ℕ) → get_or t i 0 ≡ b → is_bit b ≡ true → CodeThere t (i + 1) c →
      r.variables.stb.code ≡ c.code → Skips t c.end end → QuietWord t i r end (with_variables (with_level r.variables b) r)
  passes_level b c end eb k there same s =
      record {
        inside = h;
        moves = omega (arith, there.end, s.moves);
        quiet =
            record {
              follows = follows_level t i h r (in_block r.place) m.place m.good b c end eb k there same s;
              changes = record { place = m.place; good = m.good };
            };
      }

  pub passes_time :
      (a : Timed) (end : ℕ) → get_or t i 0 ≡ 35 → QuietTime t (i + 1) r a → Skips t a.end end →
      QuietWord t i r end (with_time a.time (with_up (eqb r.variables.stb.value.number 1) r))
  passes_time a end eb q s =
      record {
        inside = h;
        moves = omega (arith, q.there.end, s.moves);
        quiet =
            record {
              follows = follows_time t i h r (m.place ∙ ap change_place q.outside) m.good a end eb q s;
              changes = record { place = m.place; good = m.good };
            };
      }

  -- the place of a block, or outside of one
  stands : (block : Bool) → change_place block ≡ change_place (in_block (change_place block))
  stands true = refl
  stands false = refl

  pub passes_turn : (k : Turned) (end : ℕ) → Turns t i (in_block r.place) k → Skips t k.end end → QuietWord t i r end (at (change_place k.block) r)
  passes_turn k end u s =
      record {
        inside = h;
        moves = omega (arith, u.moves, s.moves);
        quiet =
            record {
              follows = follows_then t (u.follows r m.place m.good) (follows_skips t k.end end (at (change_place k.block) r) s);
              changes = record { place = stands k.block; good = m.good };
            };
      }
