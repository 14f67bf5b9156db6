-- How two whole numbers compare.
use Rattle.std.specs.Prelude.{cond, ℤ, int_lt}
use Rattle.std.specs.declared.cmp.Ordering.TheVariants.{Less, Equal, Greater}
use Rattle.std.specs.declared.cmp.Ordering.{Ordering}

abbrev pub ordering : ℤ → ℤ → Ordering
ordering a b = cond (int_lt a b) Less (cond (int_lt b a) Greater Equal)
