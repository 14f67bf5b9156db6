use Rattle.segments.specs.SegmentRules.{segment_rules}
use Rattle.cases.proofs.Worked.{worked}
use Rattle.cases.proofs.worked_cases.Goals as goal

pub returns : goal.returns
returns c = worked segment_rules
