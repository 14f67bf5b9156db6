use Rattle.std.proofs.Common.{◌<◌, length, rules}
use Rattle.reading.proofs.Splitting.{whole_field, field_whole}
use Rattle.reading.proofs.fields.is_field.Goals as goal

pub returns-then-not-is_empty : goal.returns-then-not-is_empty
returns-then-not-is_empty c =
    let some : 0 < length c.args.bytes.now = search rules in
    (whole_field _ _ c.up_to.ensures.value some, field_whole _ _ c.up_to.ensures.value)
