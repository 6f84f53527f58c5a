-- Blocks that are taken one after another.
use Rattle.std.proofs.Common.{◌≡◌, inl, inr, ◌<◌, ◌≤◌, ◌+◌, ◌/◌, ◌%◌, ℕ, Bool, true, false, List, length, get_or, sym, ap, ◌∙◌, subst, arith}
use Rattle.std.proofs.lemmas.Bool.{both_ways, cases_eq}
use Rattle.page_layout.specs.declared.geometry.Geometry.{Geometry}
use Rattle.page_layout.specs.Geometry.{row_count}
use Rattle.file_die.specs.Store.{Held}
use Rattle.crash_recovery.specs.Torn.{IsBehind}
use Rattle.crash_recovery.specs.Taken.{IsInTail, IsOf, LeavesErased, Takes}
use Rattle.crash_recovery.proofs.CutLemmas.{block_of}
use Rattle.crash_recovery.proofs.TakesLemmas.{erased_either, erased_stays, takes_more, takes_then}

-- the rows that are cut of the blocks below one
pub record IsBehindBelow (g : Geometry) (cuts : List ℕ) (below row : ℕ) : Type 0 where
  pub lower : row / g.pages < below
  pub behind : IsBehind g cuts row

pub behind_none : (g : Geometry) (cuts : List ℕ) (t : Held) → LeavesErased (IsBehindBelow g cuts 0) t
behind_none g cuts t = record { erased = λ row within is. absurd (omega (arith, is.lower)) }

pub behind_all : (g : Geometry) (cuts : List ℕ) (n : ℕ) (t : Held) → length cuts ≤ n → LeavesErased (IsBehindBelow g cuts n) t → LeavesErased (IsBehind g cuts) t
behind_all g cuts n t most left = record { erased = λ row within is. left.erased row within (record { lower = omega (arith, is.0, most); behind = is }) }

tail_behind : (g : Geometry) (cuts : List ℕ) (block from row : ℕ) → block < length cuts → from ≡ get_or cuts block 0 → IsInTail g block from row → IsBehind g cuts row
tail_behind g cuts block from row lt is tail =
    (subst (λ b. b < length cuts) (sym tail.0) lt, subst (λ b. get_or cuts b 0 ≤ row % g.pages) (sym tail.0) (subst (λ n. n ≤ row % g.pages) is tail.1))

pub behind_more : (g : Geometry) (cuts : List ℕ) (block from : ℕ) (s m t : Held) → block < length cuts → from ≡ get_or cuts block 0 → Takes (IsBehind g cuts) s m → Takes (IsInTail g block from) m t → Takes (IsBehind g cuts) s t
behind_more g cuts block from s m t lt is one two = takes_then (IsBehind g cuts) s m t one (takes_more (IsInTail g block from) (IsBehind g cuts) m t (λ row. tail_behind g cuts block from row lt is) two)

pub behind_erased : (g : Geometry) (cuts : List ℕ) (block from : ℕ) (m t : Held) → from ≡ get_or cuts block 0 → Takes (IsInTail g block from) m t → LeavesErased (IsBehindBelow g cuts block) m → LeavesErased (IsInTail g block from) t
    → LeavesErased (IsBehindBelow g cuts (block + 1)) t
behind_erased g cuts block from m t is takes before here =
    let stays : LeavesErased (IsBehindBelow g cuts block) t = erased_stays (IsBehindBelow g cuts block) (IsInTail g block from) m t (λ row lower tail. omega (arith, lower.lower, tail.0)) takes before in
    erased_either (IsBehindBelow g cuts block) (IsInTail g block from) (IsBehindBelow g cuts (block + 1)) t (λ row within both. elim (cases_eq (row / g.pages) block) [
      | inl same ↦ inr (same, subst (λ n. n ≤ row % g.pages) (ap (λ b. get_or cuts b 0) same ∙ sym is) both.behind.1)
      | inr apart ↦ inl (record { lower = omega (arith, both.lower, apart); behind = both.behind })
    ]) stays here

-- ---- the same of blocks that are cleared

pub record IsOfBelow (g : Geometry) (dead : List Bool) (below row : ℕ) : Type 0 where
  pub lower : row / g.pages < below
  pub of : IsOf g dead row

abbrev pub IsIn : Geometry → (block row : ℕ) → Type 0
IsIn g block row = row / g.pages ≡ block

pub of_none : (g : Geometry) (dead : List Bool) (t : Held) → LeavesErased (IsOfBelow g dead 0) t
of_none g dead t = record { erased = λ row within is. absurd (omega (arith, is.lower)) }

pub of_all : (g : Geometry) (dead : List Bool) (n : ℕ) (t : Held) → t.geometry ≡ g → g.blocks ≤ n → LeavesErased (IsOfBelow g dead n) t → LeavesErased (IsOf g dead) t
of_all g dead n t same most left = record {
  erased = λ row within is. left.erased row within (record { lower = omega (arith, block_of g row (subst (λ h. row < row_count h) same within), most); of = is });
}

pub of_more : (g : Geometry) (dead : List Bool) (block : ℕ) (s m t : Held) → get_or dead block false ≡ true → Takes (IsOf g dead) s m → Takes (IsIn g block) m t → Takes (IsOf g dead) s t
of_more g dead block s m t is one two = takes_then (IsOf g dead) s m t one (takes_more (IsIn g block) (IsOf g dead) m t (λ row in_it. ap (λ b. get_or dead b false) in_it ∙ is) two)

pub of_erased : (g : Geometry) (dead : List Bool) (block : ℕ) (m t : Held) → Takes (IsIn g block) m t → LeavesErased (IsOfBelow g dead block) m → LeavesErased (IsIn g block) t → LeavesErased (IsOfBelow g dead (block + 1)) t
of_erased g dead block m t takes before here =
    let stays : LeavesErased (IsOfBelow g dead block) t = erased_stays (IsOfBelow g dead block) (IsIn g block) m t (λ row lower in_it. omega (arith, lower.lower, in_it)) takes before in
    erased_either (IsOfBelow g dead block) (IsIn g block) (IsOfBelow g dead (block + 1)) t (λ row within both. elim (cases_eq (row / g.pages) block) [
      | inl same ↦ inr same
      | inr apart ↦ inl (record { lower = omega (arith, both.lower, apart); of = both.of })
    ]) stays here

-- one that is left
pub of_spared : (g : Geometry) (dead : List Bool) (block : ℕ) (t : Held) → get_or dead block false ≡ false → LeavesErased (IsOfBelow g dead block) t → LeavesErased (IsOfBelow g dead (block + 1)) t
of_spared g dead block t is before = record {
  erased = λ row within both. elim (cases_eq (row / g.pages) block) [
    | inl same ↦ absurd (both_ways (get_or dead (row / g.pages) false) (ap (λ b. get_or dead b false) same ∙ is) both.of)
    | inr apart ↦ before.erased row within (record { lower = omega (arith, both.lower, apart); of = both.of })
  ];
}
