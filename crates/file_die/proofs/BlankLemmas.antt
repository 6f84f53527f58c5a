-- The blocks of a store, erased one behind another.
use Rattle.std.proofs.Common.{◌≡◌, [], ◌∷◌, false, inl, inr, ◌∙◌, ◌<◌, ◌≤◌, ◌/◌, ◌+◌, ◌-◌, ◌*◌, ap, refl, sym, subst, arith, ℕ, true, length, replicate}
use Rattle.std.proofs.Math.Nat.{mul-le-mul_right}
use Rattle.std.proofs.lemmas.Nat.{div-mul-add}
use Rattle.std.proofs.lemmas.Bool.{cases_lt}
use Rattle.std.proofs.lemmas.List.{ext_get_or, get_or-replicate, length-replicate}
use Rattle.page_layout.specs.declared.geometry.Geometry.{Geometry}
use Rattle.page_layout.specs.Geometry.{row_count}
use Rattle.page_layout.specs.Page.{Image, Page}
use Rattle.page_layout.specs.Change.{erased_page}
use Rattle.page_layout.specs.Flash.{no_page}
use Rattle.page_layout.proofs.FlashLemmas.{inside}
use Rattle.file_die.specs.Store.{Held, AreImages, Clears, ErasesSome, MayBeLeft, Syncs, blank, page_in}
use Rattle.file_die.proofs.StoreLemmas.{erased_in}
use Rattle.file_die.proofs.AskLemmas.{synced_is}

-- the pages of the first blocks are erased
pub record AreErased (g : Geometry) (blocks : ℕ) (s : Held) : Type 0 where
  pub geometry : s.geometry ≡ g
  pub images : AreImages s
  pub erased : (row : ℕ) → row < blocks * g.pages → page_in s.pages row ≡ erased_page g

pub none_erased : (g : Geometry) (s : Held) → s.geometry ≡ g → AreImages s → AreErased g 0 s
none_erased g s e w = record { geometry = e; images = w; erased = λ row lt. let z : 0 * g.pages ≡ 0 = omega arith in absurd (omega (arith, lt, z)) }

of_block : (pages block row : ℕ) → 0 < pages → block * pages ≤ row → row < block * pages + pages → row / pages ≡ block
of_block pages block row some ge lt =
    let k : ℕ = row - block * pages in
    let is : block * pages + k ≡ row = omega (arith, ge) in
    let small : k < pages = omega (arith, ge, lt) in
    ap (λ n. n / pages) (sym is) ∙ div-mul-add block pages k small

pub more_erased : (g : Geometry) (block : ℕ) (s t : Held) → block < g.blocks → AreErased g block s → t.geometry ≡ s.geometry → Clears s block true t → AreErased g (block + 1) t
more_erased g block s t lt before e clears =
    let some : 0 < g.pages = omega (arith, g.limits.page_count.least) in
    let as_g : s.geometry ≡ g = before.geometry in
    let here : block < s.geometry.blocks = subst (λ (z : Geometry). block < z.blocks) (sym as_g) lt in
    let pages : s.geometry.pages ≡ g.pages = ap (λ (z : Geometry). z.pages) as_g in
    record {
      geometry = e ∙ as_g;
      images = clears.whole before.images;
      erased = λ row l. elim (cases_lt row (block * g.pages)) [
        | inl lower ↦
            clears.others row (λ is. absurd (
            let some' : 0 < s.geometry.pages = subst (λ n. 0 < n) (sym pages) some in
            let k = inside s.geometry.pages block row some' is in
            let at : row ≡ block * g.pages + k.0 = k.2 ∙ ap (λ n. block * n + k.0) pages in
            omega (arith, at, lower))) ∙ before.erased row lower
        | inr ge ↦
            let is : row / s.geometry.pages ≡ block = ap (λ n. row / n) pages ∙ of_block g.pages block row some ge (let m : (block + 1) * g.pages ≡ block * g.pages + g.pages = omega arith in omega (arith, l, m)) in
            ap (λ (image : Image). page_in image row) (clears.cleared refl)
            ∙ (erased_in s.geometry block row s.pages before.images.pages_whole.rows here is ∙ ap erased_page as_g)
      ];
    }

pub all_erased : (g : Geometry) (blocks : ℕ) (s t : Held) → g.blocks ≤ blocks → AreErased g blocks s → t.geometry ≡ s.geometry → Syncs s true t → t ≡ blank g
all_erased g blocks s t most all e syncs = synced_is s t syncs e ∙ (ap (λ (z : Geometry). record { geometry = z; pages = s.pages; durable = s.pages }) all.geometry ∙ ap (λ (image : Image). record { geometry = g; pages = image; durable = image }) pages)
  where
    pages : s.pages ≡ replicate (row_count g) (erased_page g)
    pages =
        let rows : length s.pages ≡ row_count g = all.images.pages_whole.rows ∙ ap row_count all.geometry in
        ext_get_or no_page s.pages (replicate (row_count g) (erased_page g)) (rows ∙ sym (length-replicate (row_count g) (erased_page g)))
        (λ row lt. all.erased row (let m : g.blocks * g.pages ≤ blocks * g.pages = mul-le-mul_right g.pages most in omega (arith, m, subst (λ n. row < n) rows lt)) ∙ sym (get_or-replicate (row_count g) row (erased_page g) no_page (subst (λ n. row < n) rows lt)))

-- ---- what is left where a call failed

-- the pages from a row on are as they were
abbrev pub StandFrom : ℕ → Held → Held → Type 0
StandFrom first s t = (row : ℕ) → first ≤ row → page_in t.pages row ≡ page_in s.pages row

pub more_stand : (g : Geometry) (block : ℕ) (o s t : Held) → s.geometry ≡ g → StandFrom (block * g.pages) o s → Clears s block true t → StandFrom ((block + 1) * g.pages) o t
more_stand g block o s t as_g before clears row ge =
    let m : (block + 1) * g.pages ≡ block * g.pages + g.pages = omega arith in
    let some : 0 < g.pages = omega (arith, g.limits.page_count.least) in
    let pages : s.geometry.pages ≡ g.pages = ap (λ (z : Geometry). z.pages) as_g in
    clears.others row (λ is. absurd (
    let k = inside g.pages block row some (ap (λ n. row / n) (sym pages) ∙ is) in
    let lt : k.0 < g.pages = k.1 in
    let at : row ≡ block * g.pages + k.0 = k.2 in
    omega (arith, at, lt, m, ge))) ∙ before row (omega (arith, m, ge))

as_it_was : (was other now : Page) → now ≡ was → MayBeLeft (was ∷ other ∷ []) now
as_it_was was other now e = inl (0, omega arith, sym e)

as_wanted : (was other now : Page) → now ≡ other → MayBeLeft (was ∷ other ∷ []) now
as_wanted was other now e = inl (1, omega arith, sym e)

-- the clear of a block failed, behind those that were done
pub some_cleared : (g : Geometry) (block : ℕ) (o s t : Held) → o.geometry ≡ g → AreErased g block s → StandFrom (block * g.pages) o s → Clears s block false t → ErasesSome o t
some_cleared g block o s t at_first before later clears row =
    let as_g : s.geometry ≡ g = before.geometry in
    let some : 0 < g.pages = omega (arith, g.limits.page_count.least) in
    let pages : s.geometry.pages ≡ g.pages = ap (λ (z : Geometry). z.pages) as_g in
    let erased : erased_page s.geometry ≡ erased_page o.geometry = ap erased_page (as_g ∙ sym at_first) in
    elim (cases_lt row (block * g.pages)) [
      | inl lower ↦
          as_wanted _ _ _ (clears.others row (λ is. absurd (
          let k = inside g.pages block row some (ap (λ n. row / n) (sym pages) ∙ is) in
          let at : row ≡ block * g.pages + k.0 = k.2 in
          omega (arith, at, lower))) ∙ (before.erased row lower ∙ ap erased_page (sym at_first)))
      | inr ge ↦ elim (cases_lt row (block * g.pages + g.pages)) [
        | inl lt ↦
            let is : row / s.geometry.pages ≡ block = ap (λ n. row / n) pages ∙ of_block g.pages block row some ge lt in
            subst (λ (p : Page). MayBeLeft (p ∷ erased_page o.geometry ∷ []) (page_in t.pages row)) (later row ge)
            (subst (λ (p : Page). MayBeLeft (page_in s.pages row ∷ p ∷ []) (page_in t.pages row)) erased (clears.torn refl row is))
        | inr over ↦
            as_it_was _ _ _ (clears.others row (λ is. absurd (
            let k = inside g.pages block row some (ap (λ n. row / n) (sym pages) ∙ is) in
            let lt : k.0 < g.pages = k.1 in
            let at : row ≡ block * g.pages + k.0 = k.2 in
            omega (arith, at, lt, over))) ∙ later row ge)
      ]
    ]

-- all were cleared, and the sync failed
pub some_unsynced : (g : Geometry) (blocks : ℕ) (o s t : Held) → o.geometry ≡ g → AreErased g blocks s → StandFrom (blocks * g.pages) o s → t.pages ≡ s.pages → ErasesSome o t
some_unsynced g blocks o s t at_first before later same row =
    let stays : page_in t.pages row ≡ page_in s.pages row = ap (λ (image : Image). page_in image row) same in
    elim (cases_lt row (blocks * g.pages)) [
      | inl lower ↦ as_wanted _ _ _ (stays ∙ (before.erased row lower ∙ ap erased_page (sym at_first)))
      | inr ge ↦ as_it_was _ _ _ (stays ∙ later row ge)
    ]
