-- The bytes of a state whose numbers fit are bytes, and the numbers read from bytes fit. Assumes nothing.
use Prim.Native.Nat.{ℕ, zero, suc, ◌+◌, ◌*◌, ◌%◌, ◌/◌, ◌<◌}
use mathlib.Core.Path.{◌≡◌}
use mathlib.Core.List.{List, [], ◌∷◌, ◌++◌}
use mathlib.Core.Bool.{Bool, true, false}
use native.Mathlib.Omega.{arith}
use native.Mathlib.Decide.{dec_lt}
use native.Mathlib.Nat.{not-suc-le-zero, le_of_suc-le-suc}
use lib.ListN.{length, get_or, get_or-eq_default}
use Rattle.model.specs.declared.Source.{Source}
use Rattle.model.specs.declared.Core.{Core}
use Rattle.model.specs.declared.Controller.{Controller}
use Rattle.model.specs.Records.{max_sources, max_cores, no_source, no_core, source_at, core_at}
use Rattle.layout.specs.Bytes.{flag_byte, word_at, source_size, core_size, sources_from, cores_from, source_bytes, core_bytes, state_bytes}
use Rattle.layout.specs.Bytes.{source_of, core_of, state_from}
use Rattle.lists.specs.Rows.{joined}
use Rattle.layout.specs.Statements.{Fits, SourceInWords, CoreInWords, IsWord, AreBytes, BytesFit}
use Rattle.lists.proofs.Rows.{length_tabulated, get_or-tabulated}

-- each element is a byte
pub data Octets : List ℕ → Type 0 where
  none : Octets []
  next : {x : ℕ} {l : List ℕ} → x < 256 → Octets l → Octets (x ∷ l)

pub are_bytes : {l : List ℕ} → Octets l → AreBytes l
are_bytes none i h = absurd (not-suc-le-zero h)
are_bytes (next p o) zero h = p
are_bytes (next p o) (suc i) h = are_bytes o i (le_of_suc-le-suc h)

pub octets_append : {l k : List ℕ} → Octets l → Octets k → Octets (l ++ k)
octets_append none q = q
octets_append (next p o) q = next p (octets_append o q)

octets_joined :
    {A : Type 0} (f : A → List ℕ) (d : A) (l : List A) → ((i : ℕ) → i < length l → Octets (f (get_or l i d))) → Octets (joined f l)
unfolding joined
octets_joined f d [] h = none
octets_joined f d (x ∷ l) h = octets_append (h zero (omega arith)) (octets_joined f d l (λ i g. h (suc i) (omega arith)))

pub octets_word : {x : ℕ} {l : List ℕ} → IsWord x → Octets l → Octets (x % 256 ∷ x / 256 ∷ l)
octets_word {x} h o = next {x = x % 256} (omega arith) (next {x = x / 256} (omega arith) o)

pub octets_flag : (x : Bool) {l : List ℕ} → Octets l → Octets (flag_byte x ∷ l)
octets_flag true o = next {x = 1} (omega arith) o
octets_flag false o = next {x = 0} (omega arith) o

octets_source : (r : Source) → SourceInWords r → Octets (source_bytes r)
octets_source r f =
    octets_word f.configured
    (octets_flag r.masked (octets_flag r.pending (octets_flag r.delivered
    (octets_word f.priority (octets_word f.dropped none)))))

octets_core : (c : Core) → CoreInWords c → Octets (core_bytes c)
octets_core c f =
    octets_word f.configured
    (octets_flag c.message.filled (octets_flag c.message.dirty (octets_word f.source (octets_word f.priority none))))

pub state_bytes_lem : (s : Controller) → Fits s → AreBytes (state_bytes s)
unfolding state_bytes
state_bytes_lem s f =
    are_bytes (octets_word f.n (octets_word f.m (octets_append
    (octets_joined source_bytes no_source s.sources (λ i h. octets_source (source_at s i) (f.sources i h)))
    (octets_joined core_bytes no_core s.cores (λ k h. octets_core (core_at s k) (f.cores k h))))))

-- ---- what is read from bytes

module _ (b : List ℕ) (are : AreBytes b) where
  -- past the end a byte is 0
  pub byte : (i : ℕ) → get_or b i 0 < 256
  byte i = go (dec_lt i (length b))
    where
      go : Dec (i < length b) → get_or b i 0 < 256
      go (yes p) = are i p
      go (no q) = let e : get_or b i 0 ≡ 0 = get_or-eq_default b 0 (omega arith) in omega arith

  is_word : (i : ℕ) → IsWord (word_at b i)
  is_word i = omega (arith, byte i, byte (i + 1))

  source_fits : (i : ℕ) → SourceInWords (source_of b i)
  source_fits i =
      let at : ℕ = sources_from + source_size * i in
      record { configured = is_word at; priority = is_word (at + 5); dropped = is_word (at + 7) }

  core_fits : (k : ℕ) → CoreInWords (core_of b k)
  core_fits k =
      let at : ℕ = cores_from + core_size * k in
      record { configured = is_word at; source = is_word (at + 4); priority = is_word (at + 6) }

pub bytes_fit : BytesFit
unfolding state_from
bytes_fit b are = (
  record { sources = length_tabulated max_sources (source_of b); cores = length_tabulated max_cores (core_of b) },
  record {
    n = is_word b are 0;
    m = is_word b are 2;
    sources =
        λ i h.
        let g : i < max_sources = omega (arith, length_tabulated max_sources (source_of b)) in
        rw (get_or-tabulated max_sources (source_of b) i no_source g) (source_fits b are i);
    cores =
        λ k h.
        let g : k < max_cores = omega (arith, length_tabulated max_cores (core_of b)) in
        rw (get_or-tabulated max_cores (core_of b) k no_core g) (core_fits b are k);
  },
)
