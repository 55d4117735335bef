use Rattle.act_laws.proofs.Fetching.{fetched_stands}
use Rattle.act_laws.proofs.laws.fetch_law.Goals as goal

pub returns : goal.returns
returns c s at place k files seat xs level here sits = fetched_stands s at k place files level here seat xs sits
