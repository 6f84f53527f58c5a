-- The block with the most is one.
use Rattle.std.proofs.Common.{◌≡◌, ℕ, ◌<◌, ◌≤◌, inl, inr, List, arith}
use Rattle.std.proofs.lemmas.Bool.{cases_lt}
use Rattle.corrected_nand.specs.Errors.{IsMost}
use Rattle.corrected_laws.specs.Laws.{MostLaw}

-- none that has the most stands before another
not_before : (counts : List ℕ) (a b : ℕ) → IsMost counts a → IsMost counts b → a < b → a ≡ b
not_before counts a b p q l = let less = q.first a l in let most = p.most b in absurd (omega arith)

pub most_law : MostLaw
most_law counts a b p q = elim (cases_lt a b) [
  | inl l ↦ not_before counts a b p q l
  | inr ge ↦ elim (cases_lt b a) [ inl l ↦ absurd (let less = p.first b l in let most = q.most a in omega arith) | inr le ↦ omega arith ]
]
