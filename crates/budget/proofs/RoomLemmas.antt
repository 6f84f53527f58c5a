-- Collections until nine blocks are free.
use Rattle.std.proofs.Common.{◌≡◌, ℕ, ◌+◌, ◌*◌, ◌<◌, ◌≤◌, arith}
use Rattle.std.specs.Int.{div_ceil}
use Rattle.std.proofs.Math.Nat.{add-mul}
use Rattle.std.proofs.lemmas.Grind.{div_ceil_times}
use Rattle.page_layout.specs.Geometry.{translation_pages, vmax_at, flush_blocks_at}
use Rattle.page_layout.proofs.GeometryLemmas.{no_share, flush_blocks_is}
use Rattle.page_layout.proofs.LiveLemmas.{some_block_within}
use Rattle.budget.specs.Laws.{FundedLaw, PutFundedLaw, CollectedFundedLaw, FreeLeftLaw, NeverStuckLaw, FreeAtLaw, NineLaw, FlushLeavesLaw, FallsLaw}
use Rattle.budget.proofs.PutLemmas.{left_fits, pool_put}
use Rattle.budget.proofs.AccountLemmas.{times_le, few_meta_openings}

pub funded : FundedLaw
funded pages s five = record { enough = let h : 5 * pages ≤ s.free * pages = times_le 5 s.free pages five in omega arith }

pub put_funded : PutFundedLaw
put_funded stream pages f old new fits put six = record {
  enough =
      let h : 6 * pages ≤ old.free * pages = times_le 6 old.free pages six in
      let room = fits.data_open in
      omega (arith, pool_put stream pages f old new (left_fits pages old stream fits) put);
}

pub collected_funded : CollectedFundedLaw
collected_funded pages f old new funded c = record {
  enough =
      let s : (f + c.failures) * pages ≡ f * pages + c.failures * pages = add-mul f c.failures pages in
      omega (arith, funded.enough, c.pays);
}

free_at_least : (pages free dl ml f : ℕ) → dl + 1 ≤ pages → ml + 1 ≤ pages → 5 * pages ≤ free * pages + dl + ml + f * pages → 4 ≤ free + f
free_at_least pages free dl ml f a b enough =
    let never : free + f ≤ 3 → ⊥ = λ (few : free + f ≤ 3). (let h : (free + f) * pages ≤ 3 * pages = times_le (free + f) 3 pages few in let s : (free + f) * pages ≡ free * pages + f * pages = add-mul free f pages in omega arith) in
    omega (arith, never)

pub free_left : FreeLeftLaw
free_left pages f s fits funded = free_at_least pages s.free s.data_left s.meta_left f fits.data_open fits.meta_open funded.enough

pub never_stuck : NeverStuckLaw
never_stuck pages f old new fits funded stuck = omega (arith, free_left pages f old fits funded, stuck.few)

pub free_at : FreeAtLaw
free_at g share marks closed many free open_blocks enough two large =
    let few : free < many → ⊥ = λ (f : free < many).
    (let found = some_block_within g marks closed (vmax_at g share) (omega (arith, enough, two, f)) in
    let over = large found.place (omega (arith, found.below)) found.is_closed in
    omega (arith, found.is_small, over)) in
    omega (arith, few)

pub nine : NineLaw
nine g marks closed more free open_blocks enough two large =
    let zero = no_share g in
    free_at g 0 marks closed (9 + more) free open_blocks (omega (arith, zero.need, enough)) two (λ b below is. omega (arith, zero.vmax, large b below is))

pub flush_leaves : FlushLeavesLaw
flush_leaves g share written first now some room few spent failed =
    let blocks : ℕ = div_ceil (translation_pages g) g.pages in
    let is : flush_blocks_at g share ≡ blocks + 2 = flush_blocks_is g share some in
    let all = (div_ceil_times (translation_pages g) g.pages (omega (arith, g.limits.page_count.least))).0 in
    let opens = few_meta_openings g.pages written blocks first now spent (omega (arith, all, few, spent.meta_open, add-mul blocks 1 g.pages)) in
    omega (arith, is, room, opens, failed)

pub falls : FallsLaw
falls pages old new fits c =
    let same : old.good * pages ≡ new.good * pages + c.failures * pages = rw c.good (add-mul new.good c.failures pages) in
    omega (arith, c.fits.within, c.pays, fits.within)
