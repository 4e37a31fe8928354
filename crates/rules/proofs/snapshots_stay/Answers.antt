-- The claim is the theorem.
use Rattle.rules.proofs.Reading.SnapshotsStay.{snapshots_stay}
use Rattle.rules.proofs.snapshots_stay.Goals as goal

pub returns : goal.returns
returns c = snapshots_stay
