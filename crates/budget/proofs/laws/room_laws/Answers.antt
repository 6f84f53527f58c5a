use Rattle.budget.proofs.RoomLemmas.{funded, put_funded, collected_funded, free_left, never_stuck, free_at, nine, flush_leaves, falls}
use Rattle.budget.proofs.laws.room_laws.Goals as goal

pub returns : goal.returns
returns c = record {
  begins = funded;
  put = put_funded;
  collected = collected_funded;
  free_left = free_left;
  never_stuck = never_stuck;
  free_at = free_at;
  nine = nine;
  flush_leaves = flush_leaves;
  falls = falls;
}
