-- `carrying::put_code` meets its contract. Assumes nothing.
use Rattle.std.proofs.Common.{refl, ◌∙◌}
use Rattle.recording.specs.Carrying.{low_bytes}
use Rattle.carrying.proofs.Numbers.{low_le_4, put_sets}
use Rattle.carrying.proofs.put_code.Goals as goal

pub returns : goal.returns
returns c =
    let a = c.args in
    put_sets a.b.now _ (low_bytes 4 a.x) a.i 4 (c.copy_from_slice.ensures.after ∙ c.to_le_bytes.ensures ∙ low_le_4 a.x) refl c.requires
