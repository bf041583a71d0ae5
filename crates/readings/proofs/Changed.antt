-- Along the changes, blocks and times that the grammar derives, a reader shows neither 11 nor 12. Assumes nothing.
--   has_code_of     a declared variable has its declaration's code
--   items           what follows the definitions
use Prim.Native.Nat.{ℕ, ◌≤◌}
use Prim.Native.String.{String}
use mathlib.Core.Path.{◌≡◌, refl, sym, ap, subst, ◌∙◌}
use mathlib.Core.Logic.{◌≢◌}
use Rattle.std.specs.Prelude.{Option, Some}
use mathlib.Core.List.Memᴰ.{head as here}
use mathlib.Core.List.Memᴰ.{tail as there}
use mathlib.Core.List.{List, [], ◌∷◌, tail, Memᴰ}
use mathlib.Core.Bool.{Bool, true, false, not, ◌&&◌, ◌||◌, cond}
use native.Mathlib.Omega.{arith}
use native.Mathlib.Nat.{min-le_right}
use lib.ListN.{length, get_or}
use lib.Dec.{leb, eqb}
use borrow.Author.Tests.{eqb-true, eq-eqb, le-leb, lt-ltb, not-true}
use Rattle.lists.proofs.Bools.{and_in, and_l, and_r, or_in_l, or_in_r, refuted, clash}
use Rattle.recording.specs.declared.Place.{Place}
use Rattle.recording.specs.declared.Place.TheVariants.{Body, SkipBody, BodyCode, Block, BlockCode}
use Rattle.recording.specs.declared.Signal.{Signal}
use Rattle.recording.specs.declared.Signal.TheVariants.{Stb, Cmd, Core, Arg, Prio}
use Rattle.recording.specs.declared.Variables.{Variables}
use Rattle.recording.specs.declared.Reader.{Reader}
use Rattle.recording.specs.Words.{bytes_of, same_bytes, is_text, all, any, Word}
use Rattle.recording.specs.Values.{is_decimal, code_of, is_bit, bit_of, value_of, vector_of}
use Rattle.recording.specs.Records.{variable, at, with_vector, with_value}
use Rattle.recording.specs.Declarations.{name_of, has_code}
use Rattle.recording.specs.Reading.{is_body, out_of_place, is_vector, is_scalar, read_change, vector_signal, read_vector_code, starts_time, read_time}
use Rattle.recording.specs.Reading.{is_dump, read_body, read_block, read_at, advance, read_words, finished}
use Rattle.recording.specs.Faults.{takes_vector, is_change, fits_in, declares_well}
use Rattle.recording.specs.Grammar.{Declaration, Once, none, more, Change, scalar, vector, Changes, Items}
use Rattle.readings.proofs.Codes.{same_bytes_lem, name_injective}
use Rattle.readings.proofs.Lists.{all_out, any_out, first_in}
use Rattle.readings.proofs.Agreement.{Known, known_declared, Agrees, agrees_kept, value_kinds, Declares, code_of_lem}
use Rattle.readings.proofs.Steps.{clear_finish, Stays, time_stays}
use Rattle.readings.proofs.Following.{Fine, Follows, move, Declared, skipped_body}

-- ---- words that are changes

-- a byte that is told by a test is not another byte
other_byte : (f : ℕ → Bool) (v k : ℕ) → f v ≡ true → f k ≡ false → eqb v k ≡ false
other_byte f v k e h = refuted (eqb v k) (λ p. clash e (ap f (eqb-true v k p) ∙ h))

-- neither # nor $ comes first
record Plain (w : List ℕ) : Type 0 where
  no_hash : starts_time w ≡ false
  no_dollar : eqb (get_or w 0 0) 36 ≡ false

is_b : ℕ → Bool
is_b b = eqb b 98 || eqb b 66

plain_vector : (w : List ℕ) → is_vector w ≡ true → Plain w
unfolding is_b
plain_vector w e =
    let b : is_b (get_or w 0 0) ≡ true = and_l (is_b (get_or w 0 0)) _ (and_l (is_b (get_or w 0 0) && _) _ e) in
    record { no_hash = other_byte is_b (get_or w 0 0) 35 b refl; no_dollar = other_byte is_b (get_or w 0 0) 36 b refl }

plain_bit : (v : ℕ) (c : List ℕ) → is_bit v ≡ true → Plain (v ∷ c)
plain_bit v c e = record { no_hash = other_byte is_bit v 35 e refl; no_dollar = other_byte is_bit v 36 e refl }

-- a plain word is no keyword
not_keyword : (w ks : List ℕ) → Plain w → same_bytes w (36 ∷ ks) ≡ false
not_keyword [] ks p = refl
not_keyword (b ∷ bs) ks p = rw p.no_dollar

bit_no_vector : (v : ℕ) (c : List ℕ) → is_bit v ≡ true → is_vector (v ∷ c) ≡ false
bit_no_vector v c e = rw (other_byte is_bit v 98 e refl, other_byte is_bit v 66 e refl)

plain_no_dump : (w : List ℕ) → Plain w → is_dump w ≡ false
plain_no_dump w p =
    rw (
      not_keyword w (bytes_of "dumpvars") p,
      not_keyword w (bytes_of "dumpall") p,
      not_keyword w (bytes_of "dumpon") p,
      not_keyword w
          (bytes_of "dumpoff") p,
    )

-- a place where changes stand, and that of their vectors' codes
record Changing (p q : Place) : Type 0 where
  reads : (r : Reader) (w : Word) → Plain w.bytes → (read_at p r w).reader ≡ read_change p q r w
  fits : (r : Reader) (w : Word) → Plain w.bytes → is_change r w.bytes ≡ true → fits_in p r w.bytes ≡ true
  declares_well_lem : (r : Reader) (w : Word) → declares_well p r w.bytes ≡ true
  code_reads : (r : Reader) (c : Word) → (read_at q r c).reader ≡ read_vector_code p (vector_signal r c.bytes) r c
  code_fits : (r : Reader) (c : Word) → takes_vector (vector_signal r c.bytes) r ≡ true → fits_in q r c.bytes ≡ true
  code_declares : (r : Reader) (c : Word) → declares_well q r c.bytes ≡ true

in_body : Changing Body BodyCode
unfolding read_at read_body fits_in declares_well
in_body =
    record {
      reads = λ r w p. rw (p.no_hash, not_keyword w.bytes (bytes_of "comment") p, plain_no_dump w.bytes p);
      fits = λ r w p e. rw (p.no_hash, e, not_keyword w.bytes (bytes_of "comment") p, plain_no_dump w.bytes p);
      declares_well_lem = λ r w. refl;
      code_reads = λ r c. refl;
      code_fits = λ r c e. e;
      code_declares = λ r c. refl;
    }

in_block : Changing Block BlockCode
unfolding read_at read_block fits_in declares_well
in_block =
    record {
      reads = λ r w p. rw (not_keyword w.bytes (bytes_of "end") p);
      fits = λ r w p e. rw (e, not_keyword w.bytes (bytes_of "end") p);
      declares_well_lem = λ r w. refl;
      code_reads = λ r c. refl;
      code_fits = λ r c e. e;
      code_declares = λ r c. refl;
    }

-- ---- what the reader holds of a declared variable

-- two declarations with the same code are one
once : (f : Declaration → List ℕ) (ds : List Declaration) → Once f ds → (d e : Declaration) → Memᴰ d ds → Memᴰ e ds →
    f d ≡ f e → d ≡ e
once f _ none d e m _ k = elim m [ ]
once f ds (more h o) d e (here p) (here q) k = p ∙ sym q
once f ds (more h o) d e (here p) (there m) k = absurd (h e m (sym (ap f p) ∙ k))
once f ds (more h o) d e (there m) (here q) k = absurd (h d m (sym (ap f q) ∙ sym k))
once f ds (more {ds = es} h o) d e (there m) (there m') k = once f es o d e m m' k

module _ (r : Reader) (ds : List Declaration) (a : Agrees r.variables ds) (d : Declaration) (m : Memᴰ d ds) where
  known : Known r.variables d
  known = a.known d m

  has_code_lem : has_code r d.code known.signal ≡ true
  unfolding known
  has_code_lem =
      and_in (lt-ltb 0 (variable r known.signal).code (known_declared r.variables d known))
      (eq-eqb (variable r known.signal).code (code_of d.code) known.code)

  pub has_code_of : (s : Signal) → d.name ≡ name_of s → has_code r d.code s ≡ true
  has_code_of s e = subst (λ (x : Signal). has_code r d.code x ≡ true) (name_injective known.signal s (sym known.named ∙ e))
      has_code_lem

  -- no other variable has the code
  only_this : (s : Signal) (c : List ℕ) → c ≡ d.code → has_code r c s ≡ true → (variable r s).width ≡ d.width
  only_this s c q e =
      let x : (x : Declares r ds s) × (c ≡ x.declaration.code) = code_of_lem r ds s c a e in
      let k : x.0.declaration ≡ d = once (λ y. y.code) ds a.codes x.0.declaration d x.0.listed m (sym x.1 ∙ q) in
      x.0.width ∙ ap (λ (y : Declaration). y.width) k

vectors : List Signal
vectors = Cmd ∷ Core ∷ Arg ∷ Prio ∷ []

is_vector_lem : (s : Signal) → name_of s ≢ name_of Stb → Memᴰ s vectors
unfolding vectors
is_vector_lem Stb h = absurd (h refl)
is_vector_lem Cmd h = here refl
is_vector_lem Core h = there (here refl)
is_vector_lem Arg h = there (there (here refl))
is_vector_lem Prio h = there (there (there (here refl)))

-- the code of a declared vector is taken for a variable that is wide enough
takes_vector_lem : (r : Reader) (ds : List Declaration) (a : Agrees r.variables ds) (d : Declaration) (m : Memᴰ d ds) →
    d.name ≢ name_of Stb → (c : List ℕ) → c ≡ d.code →
    r.pending.vector.length ≤ d.width → (s : Signal) × (vector_signal r c ≡ Some s) ×
    (leb r.pending.vector.length (variable r s).width ≡ true)
unfolding vectors
takes_vector_lem r ds a d m h c e l =
    let x : Known r.variables d = known r ds a d m in
    let f : (s : Signal) × (vector_signal r c ≡ Some s) × (has_code r c s ≡ true) =
    first_in (has_code r c) vectors x.signal (is_vector_lem x.signal (λ p. h (x.named ∙ p)))
    (rw e (has_code_of r ds a d m x.signal x.named)) in (
      f.0,
      f.1,
      le-leb r.pending.vector.length (variable r f.0).width
          (omega (arith, l, only_this r ds a d m f.0 c e f.2)),
    )

-- ---- changes

abbrev scalar_read : Place → Reader → Word → Reader
scalar_read p r w = at p (with_value Stb (value_of (bit_of (get_or w.bytes 0 0) ∷ [])) r)

read_vector : (p q : Place) (r : Reader) (w : Word) → is_vector w.bytes ≡ true →
    read_change p q r w ≡ at q (with_vector (vector_of (tail w.bytes)) r)
unfolding read_change
read_vector p q r w v = ap (λ (b : Bool). cond b (at q (with_vector (vector_of (tail w.bytes)) r))
    (cond (is_scalar r w.bytes) (scalar_read p r w) (out_of_place w r))) v

read_scalar : (p q : Place) (r : Reader) (w : Word) → is_vector w.bytes ≡ false → is_scalar r w.bytes ≡ true →
    read_change p q r w ≡ scalar_read p r w
unfolding read_change
read_scalar p q r w v s =
    ap (λ (b : Bool). cond b (at q (with_vector (vector_of (tail w.bytes)) r))
    (cond (is_scalar r w.bytes) (scalar_read p r w) (out_of_place w r))) v ∙
    ap (λ (b : Bool). cond b (scalar_read p r w) (out_of_place w r)) s

module _ (n : ℕ) (ds : List Declaration) (p q : Place) (places : Changing p q) where
  -- a vector whose code is due, no longer than its bits
  Vectored : ℕ → Reader → Type 0
  Vectored l r = Agrees r.variables ds × (r.pending.vector.length ≤ l)

  coded : (d : Declaration) → Memᴰ d ds → d.name ≢ name_of Stb → (l : ℕ) → l ≤ d.width → (c : Word) → c.bytes ≡ d.code →
      (ws : List Word) →
      Follows n p (Declared ds) ws → Follows n q (Vectored l) (c ∷ ws)
  unfolding Follows Declared Vectored read_vector_code
  coded d m h l fits c e ws follows x ex g i =
      let r : Reader = x.reader in
      let t : (s : Signal) × (vector_signal r c.bytes ≡ Some s) × (leb r.pending.vector.length (variable r s).width ≡ true) =
      takes_vector_lem r ds i.0 d m h c.bytes e (omega (arith, i.1, fits)) in
      let y : Reader = at p (with_value t.0 r.pending.vector.value r) in
      move n q p (Declared ds) x c ws ex g (places.code_fits r c (ap (λ (o : Option Signal). takes_vector o r) t.1 ∙ t.2))
      (places.code_declares r c) y
      (places.code_reads r c ∙ ap (λ (o : Option Signal). read_vector_code p o r c) t.1 ∙ ap
      (λ (b : Bool). cond b y (out_of_place c r)) t.2)
      refl (agrees_kept r.variables y.variables ds (value_kinds r t.0 r.pending.vector.value) i.0) follows

  changed : {ws rest : List Word} → Change ds ws rest → Follows n p (Declared ds) rest → Follows n p (Declared ds) ws
  unfolding Follows Declared Vectored vector_of
  changed (scalar {w} {ws} d v m h b k) follows x ex g a =
      let r : Reader = x.reader in
      let plain : Plain w.bytes = subst Plain (sym k) (plain_bit v d.code b) in
      let s : is_scalar r w.bytes ≡ true = ap (is_scalar r) k ∙ and_in b (has_code_of r ds a d m Stb h) in
      move n p p (Declared ds) x w ws ex g (places.fits r w plain (or_in_r (is_vector w.bytes) s)) (places.declares_well_lem r w)
      (scalar_read p r w)
      (places.reads r w plain ∙ read_scalar p q r w (ap is_vector k ∙ bit_no_vector v d.code b) s)
      refl (agrees_kept r.variables (scalar_read p r w).variables ds
      (value_kinds r Stb (value_of (bit_of (get_or w.bytes 0 0) ∷ []))) a) follows
  changed (vector {w} {c} {ws} d m h v l k) follows x ex g a =
      let r : Reader = x.reader in
      let plain : Plain w.bytes = plain_vector w.bytes v in
      move n p q (Vectored (length (tail w.bytes))) x w (c ∷ ws) ex g (places.fits r w plain (or_in_l (is_scalar r w.bytes) v))
      (places.declares_well_lem r w)
      (at q (with_vector (vector_of (tail w.bytes)) r)) (places.reads r w plain ∙ read_vector p q r w v) refl
      (a, min-le_right 255 (length (tail w.bytes)))
      (coded d m h (length (tail w.bytes)) l c k ws follows)

-- ---- blocks and items

block : (n : ℕ) (ds : List Declaration) {ws rest : List Word} → Changes ds ws rest → Follows n Body (Declared ds) rest →
    Follows n Block (Declared ds) ws
unfolding Follows Declared read_at read_block fits_in declares_well
block n ds (Changes.ends {w} {ws} h) follows x ex g a =
    move n Block Body (Declared ds) x w ws ex g (or_in_l (is_change x.reader w.bytes) h) refl (at Body x.reader)
    (ap (λ (b : Bool). cond b (at Body x.reader) (read_change Block BlockCode x.reader w)) h) refl a follows
block n ds (Changes.change c cs) follows x ex g a = changed n ds Block BlockCode in_block c (block n ds cs follows) x ex g a

-- a test that holds of each text of a list holds of a word that is one of them
keyword : (f : List ℕ → Bool) (l : List String) (w : List ℕ) → all (λ s. f (bytes_of s)) l ≡ true → any (λ s. is_text s w) l ≡ true →
    f w ≡ true
keyword f l w h e =
    let x : (s : String) × Memᴰ s l × (is_text s w ≡ true) = any_out (λ (s : String). is_text s w) l e in
    ap f (same_bytes_lem w (bytes_of x.0) x.2) ∙ all_out (λ (s : String). f (bytes_of s)) l h x.0 x.1

-- a dump word is no time and no comment
no_time : List ℕ → Bool
no_time w = not (starts_time w) && not (is_text "$comment" w)

dump_word : (w : List ℕ) → is_dump w ≡ true → (starts_time w ≡ false) × (is_text "$comment" w ≡ false)
unfolding no_time
dump_word w e =
    let h : no_time w ≡ true = keyword no_time ("$dumpvars" ∷ "$dumpall" ∷ "$dumpon" ∷ "$dumpoff" ∷ []) w refl e in (
      not-true (starts_time w) (and_l (not (starts_time w)) (not (is_text "$comment" w)) h),
      not-true (is_text "$comment" w) (and_r (not (starts_time w)) (not (is_text "$comment" w)) h),
    )

pub items : (n : ℕ) (ds : List Declaration) {ws : List Word} → Items ds ws → Follows n Body (Declared ds) ws
unfolding Follows Fine Declared read_words finished advance read_at read_body fits_in declares_well
items n ds Items.done x ex g a = clear_finish n x.reader g (ap is_body ex)
items n ds (Items.time {w} {ws} t i) x ex g a =
    let r : Reader = x.reader in
    let s : starts_time w.bytes ≡ true = and_l (starts_time w.bytes) _
    (and_l (starts_time w.bytes && is_decimal (tail w.bytes)) _ t) in
    let y : Stays r (read_time r w).reader = time_stays r w in
    move n Body Body (Declared ds) x w ws ex g (rw (t, s)) refl (read_time r w).reader (rw s) (y.place ∙ ex)
    (subst (λ (vs : Variables). Agrees vs ds) (sym y.variables) a) (items n ds i)
items n ds (Items.comment {w} {ws} h s i) x ex g a =
    let e : w.bytes ≡ bytes_of "$comment" = same_bytes_lem w.bytes (bytes_of "$comment") h in
    move n Body SkipBody (Declared ds) x w ws ex g (rw e) refl (at SkipBody x.reader) (rw e) refl a (skipped_body n ds s (items n ds i))
items n ds (Items.dump {w} {ws} d c i) x ex g a =
    let e : (starts_time w.bytes ≡ false) × (is_text "$comment" w.bytes ≡ false) = dump_word w.bytes d in
    move n Body Block (Declared ds) x w ws ex g (rw (e.0, d, e.1)) refl (at Block x.reader) (rw (e.0, e.1, d)) refl a
    (block n ds c (items n ds i))
items n ds (Items.change c i) x ex g a = changed n ds Body BodyCode in_body c (items n ds i) x ex g a
