use Rattle.page_code.proofs.Puts.{put_right_law}
use Rattle.page_code.proofs.laws.put_right_law.Goals as goal

pub returns : goal.returns
returns c = put_right_law
