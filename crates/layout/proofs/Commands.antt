-- A list of commands there and back, and an answer in one number. Assumes nothing.
use Prim.Native.Nat.{ℕ, ◌<◌}
use mathlib.Core.Path.{◌≡◌, refl}
use mathlib.Core.List.{List, [], ◌∷◌, Memᴰ}
use native.Mathlib.Omega.{arith}
use borrow.Author.Tests.{ne_eqb}
use Rattle.model.specs.declared.Command.{Command}
use Rattle.model.specs.declared.Command.TheVariants.{OnSource, OnCore}
use Rattle.model.specs.declared.SourceAction.TheVariants.{SetSourcePriority, Mask, Unmask, Trigger, Redeliver, Complete}
use Rattle.model.specs.declared.CoreAction.TheVariants.{SetCorePriority, Claim}
use Rattle.std.specs.Prelude.{Some, None}
use Rattle.layout.specs.Commands.{command_of, number_of, target_of, level_of}
use Rattle.lists.specs.Rows.{joined}
use Rattle.layout.specs.Bytes.{command_size, command_bytes, in_fives, commands_in}
use Rattle.layout.specs.Statements.{CommandFits, CommandsReadBack, PackedRead}
use Rattle.layout.proofs.Records.{word_back}
use Rattle.lists.proofs.Rows.{length_joined}
use Rattle.layout.proofs.Octets.{Octets, none, next, are_bytes, octets_append, octets_word}

pub number_small : (c : Command) → number_of c < 8
number_small (OnSource id (SetSourcePriority p)) = omega arith
number_small (OnSource id Mask) = omega arith
number_small (OnSource id Unmask) = omega arith
number_small (OnCore k (SetCorePriority p)) = omega arith
number_small (OnSource id Trigger) = omega arith
number_small (OnCore k Claim) = omega arith
number_small (OnSource id Redeliver) = omega arith
number_small (OnSource id Complete) = omega arith

-- a command is named by its numbers
pub command_of-numbers : (c : Command) → command_of (number_of c) (target_of c) (level_of c) ≡ Some c
unfolding command_of
command_of-numbers (OnSource id (SetSourcePriority p)) = refl
command_of-numbers (OnSource id Mask) = refl
command_of-numbers (OnSource id Unmask) = refl
command_of-numbers (OnCore k (SetCorePriority p)) = refl
command_of-numbers (OnSource id Trigger) = refl
command_of-numbers (OnCore k Claim) = refl
command_of-numbers (OnSource id Redeliver) = refl
command_of-numbers (OnSource id Complete) = refl

-- a number above 7 names none
pub unknown : (number at p : ℕ) → 7 < number → command_of number at p ≡ None
unfolding command_of
unknown number at p h =
    rw (
      ne_eqb number 0 (λ e. omega arith),
      ne_eqb number 1 (λ e. omega arith),
      ne_eqb number 2 (λ e. omega arith),
      ne_eqb number 3 (λ e. omega arith),
      ne_eqb number 4 (λ e. omega arith),
      ne_eqb number 5 (λ e. omega arith),
      ne_eqb number 6 (λ e. omega arith),
      ne_eqb number 7 (λ e. omega arith),
    )

read_back : (cs : List Command) → commands_in (joined command_bytes cs) ≡ cs
unfolding joined in_fives
read_back [] = refl
read_back (c ∷ cs) = rw (word_back (target_of c), word_back (level_of c), command_of-numbers c, read_back cs)

octets_command : (c : Command) → CommandFits c → Octets (command_bytes c)
octets_command c f = next {x = number_of c} (omega (arith, number_small c)) (octets_word f.target (octets_word f.level none))

octets_commands : (cs : List Command) → ((c : Command) → Memᴰ c cs → CommandFits c) → Octets (joined command_bytes cs)
unfolding joined
octets_commands [] fit = none
octets_commands (c ∷ cs) fit =
    octets_append (octets_command c (fit c (Memᴰ.head refl))) (octets_commands cs (λ d e. fit d (Memᴰ.tail e)))

pub commands_read_back : CommandsReadBack
commands_read_back cs = (read_back cs, length_joined command_bytes command_size (λ c. refl) cs, λ fit. are_bytes (octets_commands cs fit))

pub packed_read : PackedRead
packed_read a h k = omega arith
