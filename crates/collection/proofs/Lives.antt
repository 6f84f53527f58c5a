-- The counts of live pages, where a newest page moves.
use Rattle.std.proofs.Common.{◌≡◌, inl, inr, ℕ, ◌+◌, ◌-◌, ◌/◌, ◌<◌, ◌≤◌, ◌^◌, ◌==◌, min, List, length, length-set, Option, Some, None, refl, ap, sym}
use Rattle.std.proofs.Common.{◌∙◌, subst, arith}
use Rattle.std.specs.Option.{ForSome}
use Rattle.std.proofs.lemmas.Bool.{cases_eq, eq-eqb, ne_eqb}
use Rattle.page_layout.specs.declared.geometry.Geometry.{Geometry}
use Rattle.page_layout.specs.declared.record.Record.{Record}
use Rattle.page_layout.specs.Page.{Image}
use Rattle.page_layout.specs.Key.{key_of}
use Rattle.page_layout.specs.Live.{live, is_in_block}
use Rattle.page_layout.specs.Array.{marks}
use Rattle.page_layout.specs.Change.{one_if, Keeps, Writes}
use Rattle.budget.specs.declared.stream.Stream.{Stream}
use Rattle.allocation.specs.State.{State, live_at}
use Rattle.allocation.specs.Step.{taken, without, with_live, most_live}
use Rattle.allocation.specs.Counts.{IsLiveExact}
use Rattle.collection.specs.Pages.{newest_row}
use Rattle.collection.specs.Cost.{one_live_less, moved_live}
use Rattle.collection.proofs.Blocks.{live_here, live_there, taken_live, taken_geometry, taken_length}

-- one more
more_live : (s : State) (block v c : ℕ) → block < length s.fills → v ≡ live_at s block + 1 → live_at (with_live block v s) c ≡ live_at s c + one_if (block == c)
more_live s block v c lt is = elim (cases_eq c block) [
  | inl same ↦
      let here : live_at (with_live block v s) c ≡ v = ap (live_at (with_live block v s)) same ∙ live_here s block v lt in
      let was : live_at s c ≡ live_at s block = ap (live_at s) same in
      let one : one_if (block == c) ≡ 1 = ap one_if (eq-eqb block c (sym same)) in
      omega arith
  | inr ne ↦
      let there : live_at (with_live block v s) c ≡ live_at s c = live_there s block c v ne in
      let none : one_if (block == c) ≡ 0 = ap one_if (ne_eqb block c (λ e. ne (sym e))) in
      omega arith
]

-- one less
less_live : (s : State) (o : Option ℕ) (c : ℕ) → ForSome o (λ r. r / s.geometry.pages < length s.fills) → ForSome o (λ r. 0 < live_at s (r / s.geometry.pages)) → live_at (one_live_less o s) c + one_if (is_in_block s.geometry.pages c o) ≡ live_at s c
less_live s None c within some = omega arith
less_live s (Some row) c within some =
    let b : ℕ = row / s.geometry.pages in
    let counted : 0 < live_at s b = some row refl in
    elim (cases_eq c b) [
      | inl same ↦
          let here : live_at (with_live b (live_at s b - 1) s) c ≡ live_at s b - 1 = ap (live_at (with_live b (live_at s b - 1) s)) same ∙ live_here s b (live_at s b - 1) (within row refl) in
          let was : live_at s c ≡ live_at s b = ap (live_at s) same in
          let one : one_if (row / s.geometry.pages == c) ≡ 1 = ap one_if (eq-eqb (row / s.geometry.pages) c (sym same)) in
          omega arith
      | inr ne ↦
          let there : live_at (with_live b (live_at s b - 1) s) c ≡ live_at s c = live_there s b c (live_at s b - 1) ne in
          let none : one_if (row / s.geometry.pages == c) ≡ 0 = ap one_if (ne_eqb (row / s.geometry.pages) c (λ e. ne (sym e))) in
          omega arith
    ]

less_length : (o : Option ℕ) (s : State) → length (one_live_less o s).fills ≡ length s.fills
less_length None s = refl
less_length (Some row) s = length-set s.fills (row / s.geometry.pages) _

-- at most one page less is live anywhere
less_most : (s : State) (o : Option ℕ) (c : ℕ) → live_at (one_live_less o s) c + one_if (is_in_block s.geometry.pages c o) ≡ live_at s c → live_at (one_live_less o s) c ≤ live_at s c
less_most s o c e = omega (arith, e)

pub moves : (s : State) (o : Option ℕ) (block c : ℕ) → block < length s.fills → ForSome o (λ r. r / s.geometry.pages < length s.fills)
    → ForSome o (λ r. 0 < live_at s (r / s.geometry.pages)) → live_at s block + 1 < 2 ^ 32
    → live_at (moved_live o block s) c + one_if (is_in_block s.geometry.pages c o) ≡ live_at s c + one_if (block == c)
moves s o block c lt within some small =
    let left : State = one_live_less o s in
    let at_c : live_at left c + one_if (is_in_block s.geometry.pages c o) ≡ live_at s c = less_live s o c within some in
    let at_block : live_at left block ≤ live_at s block = less_most s o block (less_live s o block within some) in
    let v : min (live_at left block + 1) most_live ≡ live_at left block + 1 = omega (arith, at_block, small) in
    let more : live_at (with_live block (min (live_at left block + 1) most_live) left) c ≡ live_at left c + one_if (block == c) = more_live left block (min (live_at left block + 1) most_live) c (omega (arith, less_length o s)) v in
    omega (arith, at_c, more)

-- ---- an attempt

pub live_failed : (stream : Stream) (block : ℕ) (s : State) (old new : Image) → block < length s.fills → Keeps s.geometry old new → IsLiveExact s (marks old) → IsLiveExact (without block (taken stream block s)) (marks new)
live_failed stream block s old new lt k w =
    let t : State = without block (taken stream block s) in
    let P : Geometry → Type 0 = λ g. (b : ℕ) → b < g.blocks → live_at t b ≡ live g (marks new) b in
    subst P (sym (taken_geometry stream s block)) (λ b lb. taken_live stream s block b lt ∙ (w b lb ∙ sym (k.live_same b)))

pub live_passed : (stream : Stream) (block row : ℕ) (s : State) (rec : Record) (body : List ℕ) (o : Option ℕ) (old new : Image)
    → block < length s.fills → row / s.geometry.pages ≡ block → ForSome o (λ r. r / s.geometry.pages < length s.fills)
    → ForSome o (λ r. 0 < live_at s (r / s.geometry.pages)) → live_at s block + 1 < 2 ^ 32 → o ≡ newest_row old (key_of rec)
    → Writes s.geometry rec row body old new → IsLiveExact s (marks old) → (moved_live o block (taken stream block s)).geometry ≡ s.geometry
    → IsLiveExact (moved_live o block (taken stream block s)) (marks new)
live_passed stream block row s rec body o old new lt is within some small old_is w exact geometry =
    let t : State = taken stream block s in
    let m : State = moved_live o block t in
    let same : t.geometry ≡ s.geometry = taken_geometry stream s block in
    let size : length t.fills ≡ length s.fills = taken_length stream s block in
    let live_same : (b : ℕ) → live_at t b ≡ live_at s b = λ b. taken_live stream s block b lt in
    let P : Geometry → Type 0 = λ g. (b : ℕ) → b < g.blocks → live_at m b ≡ live g (marks new) b in
    subst P (sym geometry) (λ b lb.
    let ram : live_at m b + one_if (is_in_block t.geometry.pages b o) ≡ live_at t b + one_if (block == b) = moves t o block b (omega (arith, size))
    (λ r e. rw (same, size) (within r e))
    (λ r e.
    (let x = some r e in let y : live_at t (r / t.geometry.pages) ≡ live_at s (r / s.geometry.pages) = live_same (r / t.geometry.pages) ∙ ap
    (λ g. live_at s (r / g.pages)) same in omega arith)) (omega (arith, live_same block)) in
    let die : live s.geometry (marks new) b + one_if (is_in_block s.geometry.pages b (newest_row old (key_of rec))) ≡ live s.geometry (marks old) b + one_if (row / s.geometry.pages == b) = w.live_moved b in
    let same_old : one_if (is_in_block t.geometry.pages b o) ≡ one_if (is_in_block s.geometry.pages b (newest_row old (key_of rec))) = ap (λ g. one_if (is_in_block g.pages b o)) same ∙ ap (λ x. one_if (is_in_block s.geometry.pages b x)) old_is in
    let same_new : one_if (row / s.geometry.pages == b) ≡ one_if (block == b) = ap (λ k. one_if (k == b)) is in
    let before : live_at s b ≡ live s.geometry (marks old) b = exact b lb in
    omega (arith, live_same b))
