-- Which block is collected, and what a log says, each by the fields of its definition.
use Rattle.std.proofs.Common.{◌≡◌, ◌≤◌, ◌==◌, not, false, length, Option, MatchOption, inl, inr, sym, ap, subst, arith}
use Rattle.page_layout.specs.Geometry.{waiting_at}
use Rattle.page_layout.specs.declared.geometry.Geometry.{Geometry}
use Rattle.page_layout.specs.Flash.{Leads}
use Rattle.mapping_cache.specs.Mapping.{MappingState, moved_in, per_page}
use Rattle.collection.specs.declared.engine.Pinned.{Pinned}
use Rattle.collection.specs.Collect.{has_moved, waiting}
use Rattle.collection.specs.Room.{IsWorth}
use Rattle.ftl_device.proofs.PinLemmas.{none_moved}
use Rattle.promises.specs.Log.{programs_in}
use Rattle.device_laws.specs.Collections.{VictimLaw, PinnedFirstLaw, NoneWaitsLaw, LowestPageLaw, FiveFreeBlocksLaw, AilingLaw, LessLeftLaw}
use Rattle.device_laws.specs.Logs.{NothingLaw, LedLaw, TakesLaw, LegalCallLaw}

pub victim : VictimLaw
victim many r block other is none =
    let P : Option Pinned → Type 0 = λ o. MatchOption o (IsWorth many r block) (λ p. p.block ≡ block) in
    let worth : IsWorth many r block = subst P none is.which in
    (is.scarce, worth.victim.closed, worth.small, λ within closed. worth.victim.live_least other within closed)

pub pinned_first : PinnedFirstLaw
pinned_first many r pinned block is some =
    let P : Option Pinned → Type 0 = λ o. MatchOption o (IsWorth many r block) (λ p. p.block ≡ block) in
    (is.scarce, subst P some is.which)

pub none_waits : NoneWaitsLaw
none_waits flushing block t old new did = (few, λ unshared. ap (λ l. not (length (moved_in (per_page new.mapping) t l) == 0)) (none_moved new unshared few))
  where
    few : length new.mapping.moved ≤ waiting new
    few =
        subst (λ (m : MappingState). length m.moved ≤ waiting_at new.geometry m.share) (sym did.erase.mapping)
        (subst (λ (g : Geometry). length did.mid.mapping.moved ≤ waiting_at g did.mid.mapping.share) (sym did.erase.geometry) did.none.few)

pub lowest_page : LowestPageLaw
lowest_page flushing old new w t = (w.lowest.due, w.lowest.lowest t, w.of_moved)

pub room : FiveFreeBlocksLaw
room many r block has = (
  has.five,
  λ few within closed. (elim has.wanted [
    | inl enough ↦ absurd (omega (arith, few, enough))
    | inr none ↦ none.none block within closed
  ]),
)

pub ailing : AilingLaw
ailing s block is = (is.bad, is.some)

pub less_left : LessLeftLaw
less_left flushing p old new before after step is ne = (let left = is.left ne in omega (arith, left))

pub led : LedLaw
led old new before after told told' w = w.leads

pub takes : TakesLaw
takes old new before after told told' w = w.next

pub legal : LegalCallLaw
legal old new before after told told' w accounts agree = w.follows.legal accounts agree

pub nothing : NothingLaw
nothing old new before after told told' w empty = (
  subst (λ ops. Leads before ops after) empty w.leads,
  (let count : programs_in w.log ≡ 0 = ap programs_in empty in omega (arith, count, w.next)),
)
