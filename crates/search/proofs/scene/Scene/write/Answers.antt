-- Place by place, from the front of the buffer.
use Rattle.std.proofs.Common.{◌≡◌, ℕ, ◌<◌, ◌≤◌, min, List, ◌++◌, length, take, drop, set, Some, None, refl, ap, ◌∙◌, subst, arith}
use Rattle.std.proofs.lemmas.List.{set-get_or}
use Rattle.lattice.specs.declared.placement.Placement.{Placement}
use Rattle.search.proofs.Counting.{put_front, number_index}
use Rattle.search.proofs.Walking.{given_none, step}
use Rattle.search.proofs.scene.Scene.write.Goals as goal

pub loop-n-init : goal.loop-n-init
loop-n-init g c = λ ps h. (given_none g.M.Kind.model g.C.Kind.model c.args.self.now ps h c.places-places.result c.places-places.ensures.scene c.places-places.ensures.first, refl)

pub loop-n-preserved : goal.loop-n-preserved
loop-n-preserved g c = λ ps h.
    let x = step g.M.Kind.model g.C.Kind.model c.args.self.now ps h c.loop-n.places c.next.new.self (Some c.in-Some.p) c.loop-n.n (c.loop-n.invariant ps h).0 c.in-Some.ensures.steps in
    let y = number_index ps c.loop-n.n c.in-Some.p x.0 in
    let w : c.loop-n.n < length c.args.out.now = omega arith in
    (x.1, ap (λ (o : List Placement). set o c.loop-n.n c.in-Some.p) (c.loop-n.invariant ps h).1 ∙ put_front ps c.args.out.now c.loop-n.n c.in-Some.p y.0 w y.1)

pub returns-in-None : goal.returns-in-None
returns-in-None g c = λ ps h.
    let e = step g.M.Kind.model g.C.Kind.model c.args.self.now ps h c.loop-n.places c.next.new.self None c.loop-n.n (c.loop-n.invariant ps h).0 c.in-None.ensures.steps in
    let w : c.loop-n.n < length c.args.out.now = omega arith in
    (omega (arith, e), set-get_or c.loop-n.out c.loop-n.n c.index-out-n.result ∙ (c.loop-n.invariant ps h).1)

full : (ps old out : List Placement) (n : ℕ) → n ≤ length ps → n ≡ length out → length out ≡ length old → out ≡ take n ps ++ drop n old → (length out ≡ min (length ps) (length old)) × (out ≡ take (length out) ps ++ drop (length out) old)
full ps old out n h e l q = (omega (arith, e, l), subst (λ (z : ℕ). out ≡ take z ps ++ drop z old) e q)

pub returns : goal.returns
returns g c = λ ps h.
    let x = c.loop-n.invariant ps h in
    full ps c.args.out.now c.loop-n.out c.loop-n.n x.0.passed.within (omega arith) (omega arith) x.1
