-- The grammar of a recording as derivations, beside the reading and not made from it. Definitions only. Assumes nothing.
-- Source: document 01, "The bus monitor's text", sentence by sentence: first the definitions, then $enddefinitions $end, then items in
-- any order. That a text read without a fault is derived, and that a derived one shows neither 11 nor 12, is `GrammarExact`.
--   Definitions ds ws    ws go on after the declarations ds, last first
--   Items ds ws          ws go on after the definitions
--   Changes ds ws rest   changes only, up to and with $end; rest follows
--   Skipped ws rest      anything, up to and with the next $end; rest follows
use Rattle.std.specs.Prelude.{ℕ, ◌≤◌, ◌≡◌, ◌≢◌, true, false, length}
use Prim.Native.String.{String}
use mathlib.Core.List.{List, [], ◌∷◌, tail, Memᴰ}
use Rattle.recording.specs.declared.Signal.{Signal}
use Rattle.recording.specs.declared.Signal.TheVariants.{Stb}
use Rattle.recording.specs.Words.{is_text, Word}
use Rattle.recording.specs.Values.{is_decimal, decimal, is_code, is_bit}
use Rattle.recording.specs.Declarations.{name_of, Form, forms, width_in}
use Rattle.recording.specs.Reading.{is_skipped, is_vector, is_time, is_dump}

abbrev pub Is : String → Word → Type 0
Is s w = is_text s w.bytes ≡ true

-- Each skipped to the next word $end.
pub data Skipped : List Word → List Word → Type 0 where
  ends : {w : Word} {ws : List Word} → Is "$end" w → Skipped (w ∷ ws) ws
  passes : {w : Word} {ws rest : List Word} → is_text "$end" w.bytes ≡ false → Skipped ws rest → Skipped (w ∷ ws) rest

-- ---- declarations

-- $var wire W C N $end: the name, the width, the code.
pub record Declaration : Type 0 where
  pub name : List ℕ
  pub width : ℕ
  pub code : List ℕ

abbrev pub declaration : List ℕ → ℕ → List ℕ → Declaration
declaration name width code = record { name = name; width = width; code = code }

-- No two of the list have the same f.
pub data Once (f : Declaration → List ℕ) : List Declaration → Type 0 where
  none : Once f []
  more : {d : Declaration} {ds : List Declaration} → ((e : Declaration) → Memᴰ e ds → f d ≢ f e) → Once f ds → Once f (d ∷ ds)

-- The five variables, each declared once, with the widths of one form and different codes.
pub record Complete (ds : List Declaration) : Type 0 where
  pub form : Form
  pub listed : Memᴰ form forms
  pub right : (d : Declaration) → Memᴰ d ds → (s : Signal) × (d.name ≡ name_of s) × (d.width ≡ width_in form s)
  pub each : (s : Signal) → (d : Declaration) × Memᴰ d ds × (d.name ≡ name_of s)
  pub names : Once (λ d. d.name) ds
  pub codes : Once (λ d. d.code) ds

-- ---- changes

-- Of stb: a bit joined to its code. Of another variable: b joined to one or more bits, no more than its width, then its code as a word.
pub data Change (ds : List Declaration) : List Word → List Word → Type 0 where
  scalar : {w : Word} {ws : List Word} (d : Declaration) (v : ℕ) →
      Memᴰ d ds → d.name ≡ name_of Stb → is_bit v ≡ true → w.bytes ≡ v ∷ d.code → Change ds (w ∷ ws) ws
  vector : {w c : Word} {ws : List Word} (d : Declaration) →
      Memᴰ d ds → d.name ≢ name_of Stb → is_vector w.bytes ≡ true → length (tail w.bytes) ≤ d.width → c.bytes ≡ d.code →
      Change ds (w ∷ c ∷ ws) ws

pub data Changes (ds : List Declaration) : List Word → List Word → Type 0 where
  ends : {w : Word} {ws : List Word} → Is "$end" w → Changes ds (w ∷ ws) ws
  change : {ws next rest : List Word} → Change ds ws next → Changes ds next rest → Changes ds ws rest

-- ---- after the definitions

pub data Items (ds : List Declaration) : List Word → Type 0 where
  done : Items ds []
  time : {w : Word} {ws : List Word} → is_time w.bytes ≡ true → Items ds ws → Items ds (w ∷ ws)
  comment : {w : Word} {ws rest : List Word} → Is "$comment" w → Skipped ws rest → Items ds rest → Items ds (w ∷ ws)
  dump : {w : Word} {ws rest : List Word} → is_dump w.bytes ≡ true → Changes ds ws rest → Items ds rest → Items ds (w ∷ ws)
  change : {ws rest : List Word} → Change ds ws rest → Items ds rest → Items ds ws

-- ---- the definitions

pub data Definitions : List Declaration → List Word → Type 0 where
  skip : {ds : List Declaration} {w : Word} {ws rest : List Word} → is_skipped w.bytes ≡ true → Skipped ws rest →
      Definitions ds rest → Definitions ds (w ∷ ws)
  var : {ds : List Declaration} {v i w c n e : Word} {ws : List Word} →
      Is "$var" v → Is "wire" i → is_decimal w.bytes ≡ true → is_code c.bytes ≡ true → Is "$end" e →
      Definitions (declaration n.bytes (decimal w.bytes) c.bytes ∷ ds) ws → Definitions ds (v ∷ i ∷ w ∷ c ∷ n ∷ e ∷ ws)
  end : {ds : List Declaration} {v e : Word} {ws : List Word} → Is "$enddefinitions" v → Is "$end" e → Complete ds → Items ds ws →
      Definitions ds (v ∷ e ∷ ws)
