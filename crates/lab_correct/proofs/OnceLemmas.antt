-- Each row of a dump has one line of the map of what was lost.
use Rattle.std.proofs.Common.{◌≡◌, ◌⊎◌, inl, inr, ℕ, zero, suc, ◌+◌, ◌-◌, ◌<◌, ◌≤◌, Bool, true, false, if◌then◌else◌, List, [], ◌∷◌, length, refl, sym, ap, subst, ◌∙◌, arith}
use Rattle.std.specs.Prelude.{◌==◌}
use Rattle.std.proofs.lemmas.Bool.{cases_lt, ne_eqb}
use Rattle.page_layout.specs.declared.geometry.Geometry.{Geometry}
use Rattle.page_layout.specs.Page.{Image}
use Rattle.page_code.specs.Corrected.{lost_chunks}
use Rattle.lab_correct.specs.declared.correcting.Loss.{Loss}
use Rattle.lab_correct.specs.Correcting.{losses_from}
use Rattle.lab_correct.specs.Map.{AreRising, IsBetweenLosses, IsLostAs, OneLineLaw, next_row, row_at}

-- the row behind the first losses, of which there are so many, where this one comes first
next_from : ℕ → List Loss → ℕ → ℕ
next_from from losses zero = from
next_from from losses (suc n) = row_at losses n + 1

next_is : (losses : List Loss) (n : ℕ) → next_row losses n ≡ next_from 0 losses n
unfolding next_from
next_is losses zero = refl
next_is losses (suc n) =
    let some : (suc n == 0) ≡ false = ne_eqb (suc n) 0 (λ e. omega arith) in
    let one : suc n - 1 ≡ n = omega arith in
    ap (λ (b : Bool). if b then 0 else (row_at losses (suc n - 1) + 1)) some ∙ ap (λ k. row_at losses k + 1) one

rises : (from rows : ℕ) (losses : List Loss) → AreRising from losses rows → (i : ℕ) → i < length losses → next_from from losses i ≤ row_at losses i
unfolding next_from
rises from rows [] h i l = absurd (let l : i < 0 = l in omega arith)
rises from rows (loss ∷ losses) h zero l = h.0
rises from rows (loss ∷ losses) h (suc zero) l = rises (loss.row + 1) rows losses h.1 zero (let l : suc zero < suc (length losses) = l in omega arith)
rises from rows (loss ∷ losses) h (suc (suc i)) l = rises (loss.row + 1) rows losses h.1 (suc i) (let l : suc (suc i) < suc (length losses) = l in omega arith)

ends : (from rows : ℕ) (losses : List Loss) → AreRising from losses rows → next_from from losses (length losses) ≤ rows
unfolding next_from
ends from rows [] h = h
ends from rows (loss ∷ []) h = h.1
ends from rows (loss ∷ (more ∷ losses)) h = ends (loss.row + 1) rows (more ∷ losses) h.1

-- the losses before one are of lower rows
lower : (losses : List Loss) (rows : ℕ) → AreRising 0 losses rows → (i j : ℕ) → i < j → j ≤ length losses → row_at losses i < next_from 0 losses j
unfolding next_from
lower losses rows h i zero l most = absurd (omega arith)
lower losses rows h i (suc j) l most = elim (cases_lt i j) [
  | inl less ↦
      let before : row_at losses i < next_from 0 losses j = lower losses rows h i j less (omega arith) in
      let here : next_from 0 losses j ≤ row_at losses j = rises 0 rows losses h j (omega arith) in
      omega arith
  | inr le ↦
      let same : i ≡ j = omega arith in
      subst (λ k. row_at losses k < row_at losses j + 1) (sym same) (omega arith)
]

-- ---- what is named

with_loss : (from row rows chunks : ℕ) (b : Bool) (rest : List Loss) → from ≤ row → AreRising (row + 1) rest rows → ((f : ℕ) → f ≤ row + 1 → AreRising f rest rows)
    → AreRising from (Rattle.std.specs.List.cons_option (if b then Rattle.std.proofs.Common.None else Rattle.std.proofs.Common.Some (record { row = row; chunks = chunks })) rest) rows
with_loss from row rows chunks true rest le h lower = lower from (omega arith)
with_loss from row rows chunks false rest le h lower = (le, h)

sooner : (from first rows : ℕ) (losses : List Loss) → first ≤ from → AreRising from losses rows → AreRising first losses rows
sooner from first rows [] le h = (let h : from ≤ rows = h in omega arith)
sooner from first rows (loss ∷ losses) le h = ((let l = h.0 in omega arith), h.1)

named : (g : Geometry) (row : ℕ) (image : Image) → AreRising row (losses_from g row image) (row + length image)
named g row [] = (let le : row ≤ row + 0 = omega arith in le)
named g row (p ∷ ps) =
    let size : row + 1 + length ps ≡ row + suc (length ps) = omega arith in
    let rest : AreRising (row + 1) (losses_from g (row + 1) ps) (row + suc (length ps)) = subst (λ n. AreRising (row + 1) (losses_from g (row + 1) ps) n) size (named g (row + 1) ps) in
    with_loss row row (row + suc (length ps)) (lost_chunks g p) (lost_chunks g p == 0) (losses_from g (row + 1) ps) (omega arith) rest
    (λ f le. sooner (row + 1) f (row + suc (length ps)) (losses_from g (row + 1) ps) le rest)

-- ---- the law

found_below : (losses : List Loss) (rows row : ℕ) → row < rows → (k : ℕ) → k ≤ length losses → row < next_from 0 losses k → ((i : ℕ) × IsBetweenLosses losses rows i row) ⊎ ((i : ℕ) × IsLostAs losses i row)
unfolding next_from
found_below losses rows row end zero most l = absurd (omega arith)
found_below losses rows row end (suc k) most l = elim (cases_lt row (next_from 0 losses k)) [
  | inl less ↦ found_below losses rows row end k (omega arith) less
  | inr le ↦ elim (cases_lt row (row_at losses k)) [
    | inl before ↦ inl (k, record { part = omega arith; first = subst (λ n. n ≤ row) (sym (next_is losses k)) le; before = λ _. before; end = end })
    | inr behind ↦ inr (k, record { part = omega arith; is = omega arith })
  ]
]

some_line : (losses : List Loss) (rows row : ℕ) → AreRising 0 losses rows → row < rows → ((i : ℕ) × IsBetweenLosses losses rows i row) ⊎ ((i : ℕ) × IsLostAs losses i row)
some_line losses rows row h end = elim (cases_lt row (next_from 0 losses (length losses))) [
  | inl less ↦ found_below losses rows row end (length losses) (omega arith) less
  | inr le ↦ inl (length losses, record { part = omega arith; first = subst (λ n. n ≤ row) (sym (next_is losses (length losses))) le; before = λ l. absurd (omega arith); end = end })
]

not_before : (losses : List Loss) (rows row i j : ℕ) → AreRising 0 losses rows → IsBetweenLosses losses rows i row → IsBetweenLosses losses rows j row → i < j → ⊥
not_before losses rows row i j h a b l =
    let below = lower losses rows h i j l b.part in
    let first = subst (λ n. n ≤ row) (next_is losses j) b.first in
    let within = a.before (let most = b.part in omega arith) in
    omega arith

between_once : (losses : List Loss) (rows row i j : ℕ) → AreRising 0 losses rows → IsBetweenLosses losses rows i row → IsBetweenLosses losses rows j row → i ≡ j
between_once losses rows row i j h a b = elim (cases_lt i j) [
  | inl l ↦ absurd (not_before losses rows row i j h a b l)
  | inr le ↦ elim (cases_lt j i) [
    | inl l ↦ absurd (not_before losses rows row j i h b a l)
    | inr ge ↦ omega arith
  ]
]

not_lost_before : (losses : List Loss) (rows row i j : ℕ) → AreRising 0 losses rows → IsLostAs losses i row → IsLostAs losses j row → i < j → ⊥
not_lost_before losses rows row i j h a b l =
    let below = lower losses rows h i j l (let part = b.part in omega arith) in
    let here = rises 0 rows losses h j b.part in
    let first = a.is in
    let second = b.is in
    omega arith

lost_once : (losses : List Loss) (rows row i j : ℕ) → AreRising 0 losses rows → IsLostAs losses i row → IsLostAs losses j row → i ≡ j
lost_once losses rows row i j h a b = elim (cases_lt i j) [
  | inl l ↦ absurd (not_lost_before losses rows row i j h a b l)
  | inr le ↦ elim (cases_lt j i) [
    | inl l ↦ absurd (not_lost_before losses rows row j i h b a l)
    | inr ge ↦ omega arith
  ]
]

apart : (losses : List Loss) (rows row i j : ℕ) → AreRising 0 losses rows → IsBetweenLosses losses rows i row → ¬ IsLostAs losses j row
apart losses rows row i j h a b = elim (cases_lt j i) [
  | inl l ↦
      let below = lower losses rows h j i l a.part in
      let first = subst (λ n. n ≤ row) (next_is losses i) a.first in
      let is = b.is in
      omega arith
  | inr le ↦
      let within : row < row_at losses i = a.before (let part = b.part in omega arith) in
      let here = rises 0 rows losses h j b.part in
      let is = b.is in
      elim (cases_lt i j) [
        | inl l ↦ (let below = lower losses rows h i j l (let part = b.part in omega arith) in omega arith)
        | inr ge ↦ (let same : row_at losses i ≡ row_at losses j = ap (row_at losses) (let e : i ≡ j = omega arith in e) in omega arith)
      ]
]

pub one_line_law : OneLineLaw
one_line_law = record {
  named = λ g image. subst (λ n. AreRising 0 (losses_from g 0 image) n) (let e : 0 + length image ≡ length image = omega arith in e) (named g 0 image);
  some = some_line;
  between = between_once;
  lost = lost_once;
  apart = apart;
}
