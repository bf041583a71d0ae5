-- `carrying::put_number` meets its contract. Assumes nothing.
use Rattle.std.proofs.Common.{refl, ◌∙◌}
use Rattle.recording.specs.Carrying.{low_bytes}
use Rattle.carrying.proofs.Numbers.{low_le_8, put_sets}
use Rattle.carrying.proofs.put_number.Goals as goal

pub returns : goal.returns
returns c =
    let a = c.args in
    put_sets a.b.now _ (low_bytes 8 a.x) a.i 8 (c.copy_from_slice.ensures.after ∙ c.to_le_bytes.ensures ∙ low_le_8 a.x) refl c.requires
