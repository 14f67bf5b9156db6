use Rattle.std.proofs.Common.{rules}
use Rattle.std.proofs.lemmas.List.Sorted.{IsPartitionPoint-from_clause}
use Rattle.sheets.specs.Cover.{ahead}
use Rattle.sheets.proofs.Order.{pairs_from, all_first, all_rest}
use Rattle.sheets.proofs.Joined.{ahead_partitioned}
use Rattle.sheets.proofs.finding.place_of.Goals as goal

pub returns-clause-parted : goal.returns-clause-parted
returns-clause-parted g c =
    let m = g.K.Kind.model in
    let r = g.met.K.Kind.rules in
    let xs = c.args.xs.now in
    let e = c.args.e.now in
    λ h.
    let found = IsPartitionPoint-from_clause (λ x. ahead m x e) xs c.partition_point.result c.partition_point.ensures.partitioned (ahead_partitioned m r xs e (pairs_from m r xs h)) (λ a t f k. search rules) in
    record { front = all_first _ xs _ found.0; back = all_rest _ xs _ found.1 }
