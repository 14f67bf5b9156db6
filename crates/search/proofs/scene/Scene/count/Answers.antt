use Rattle.std.proofs.Common.{◌∙◌, arith}
use Rattle.search.proofs.Walking.{given_none, drained}
use Rattle.search.proofs.scene.Scene.count.Goals as goal

pub returns : goal.returns
returns g c = λ ps h.
    let r = c.count.ensures.ran in
    let d = given_none g.M.Kind.model g.C.Kind.model c.args.self.now ps h c.places.result c.places.ensures.scene c.places.ensures.first in
    omega (arith, r.2 ∙ drained g.M.Kind.model g.C.Kind.model c.args.self.now ps h r.0 c.places.result d r.1)
