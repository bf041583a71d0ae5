-- What is claimed of the bytes of states, commands and answers, as propositions. Assumes nothing.
--   StateReadBack       a state is read back from its bytes
--   StateEncoded        a state's bytes encode a state, and are bytes if its numbers fit
--   BytesWrittenBack    bytes that encode a state are written back
--   BytesFit            the state read from bytes has the arrays' lengths, and numbers that fit
--   CommandsReadBack    every list of commands has bytes that are read back as that list
--   PackedRead          the parts of an answer are read back from the one number that it is packed into
use Rattle.std.specs.Prelude.{ℕ, ◌*◌, ◌^◌, ◌<◌, ◌≡◌, true, length, get_or}
use mathlib.Core.List.{List, Memᴰ}
use Rattle.model.specs.declared.Source.{Source}
use Rattle.model.specs.declared.Core.{Core}
use Rattle.model.specs.declared.Controller.{Controller}
use Rattle.model.specs.declared.Command.{Command}
use Rattle.model.specs.declared.Answer.{Answer}
use Rattle.model.specs.Records.{max_sources, max_cores, source_at, core_at}
use Rattle.layout.specs.Commands.{target_of, level_of}
use Rattle.layout.specs.Bytes.{state_bytes, state_from, is_state, command_size, command_bytes, commands_in, packed, number_in, id_in}
use Rattle.layout.specs.Bytes.{cycles_in}
use Rattle.lists.specs.Rows.{joined}

-- The lists have the arrays' lengths.
pub record Sized (s : Controller) : Type 0 where
  pub sources : length s.sources ≡ max_sources
  pub cores : length s.cores ≡ max_cores

-- The numbers fit 16 bits.
abbrev pub IsWord : ℕ → Type 0
IsWord x = x < 2 ^ 16

pub record SourceInWords (r : Source) : Type 0 where
  pub configured : IsWord r.configured
  pub priority : IsWord r.priority
  pub dropped : IsWord r.dropped

pub record CoreInWords (c : Core) : Type 0 where
  pub configured : IsWord c.configured
  pub source : IsWord c.message.source.0
  pub priority : IsWord c.message.priority

pub record Fits (s : Controller) : Type 0 where
  pub n : IsWord s.n
  pub m : IsWord s.m
  pub sources : (i : ℕ) → i < length s.sources → SourceInWords (source_at s i)
  pub cores : (k : ℕ) → k < length s.cores → CoreInWords (core_at s k)

abbrev pub AreBytes : List ℕ → Type 0
AreBytes b = (i : ℕ) → i < length b → get_or b i 0 < 256

abbrev pub StateReadBack : Type 0
StateReadBack = (s : Controller) → Sized s → state_from (state_bytes s) ≡ s

abbrev pub StateEncoded : Type 0
StateEncoded = (s : Controller) → Sized s → (is_state (state_bytes s) ≡ true) × (Fits s → AreBytes (state_bytes s))

abbrev pub BytesWrittenBack : Type 0
BytesWrittenBack = (b : List ℕ) → AreBytes b → is_state b ≡ true → state_bytes (state_from b) ≡ b

abbrev pub BytesFit : Type 0
BytesFit = (b : List ℕ) → AreBytes b → Sized (state_from b) × Fits (state_from b)

pub record CommandFits (c : Command) : Type 0 where
  pub target : IsWord (target_of c)
  pub level : IsWord (level_of c)

-- Five bytes a command. Numbers that fit make bytes, so any list of a program's commands can be handed over.
abbrev pub CommandsReadBack : Type 0
CommandsReadBack =
    (cs : List Command) →
    (commands_in (joined command_bytes cs) ≡ cs) × (length (joined command_bytes cs) ≡ command_size * length cs) ×
    (((c : Command) → Memᴰ c cs → CommandFits c) → AreBytes (joined command_bytes cs))

abbrev pub PackedRead : Type 0
PackedRead =
    (a : Answer) → a.number < 2 ^ 8 → IsWord a.id.0 →
    (number_in (packed a) ≡ a.number) × (id_in (packed a) ≡ a.id.0) × (cycles_in (packed a) ≡ a.cycles)
