use Rattle.std.proofs.Common.{⊎_elim, arith}
use Rattle.reading.proofs.Splitting.{front_length, taken_field}
use Rattle.reading.proofs.fields.take_field.Goals as goal

pub returns-then-n-eq0 : goal.returns-then-n-eq0
returns-then-n-eq0 c = λ f rest h e.
    let l = front_length _ f rest h e in
    let v = c.up_to-n.ensures.value in
    ⊎_elim (λ z. omega (arith, l.0, l.1, v, z)) (λ z. omega (arith, l.0, l.1, v, z)) c.then-n-eq0.either

pub returns : goal.returns
returns c = taken_field _ _ c.up_to-n.ensures.value c.if-n-eq0.false (omega (arith, c.up_to-n.ensures.within, c.if-n-bytes.false))
