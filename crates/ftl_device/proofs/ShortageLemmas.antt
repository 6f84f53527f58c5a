-- A call that began with nine free blocks.
use Rattle.std.proofs.Common.{◌≡◌, inl, inr, ℕ, ◌+◌, ◌≤◌, ◌⊎◌, Ok, Err, subst, arith}
use Rattle.std.proofs.lemmas.Bool.{cases_lt}
use Rattle.page_layout.specs.declared.geometry.Geometry.{Geometry}
use Rattle.bad_blocks.specs.Table.{good_count}
use Rattle.budget.specs.Counts.{FitsGoodBlocks}
use Rattle.budget.specs.Spending.{Spending}
use Rattle.budget.proofs.AccountLemmas.{no_page, few_openings, stuck}
use Rattle.allocation.specs.State.{free_count}
use Rattle.allocation.specs.Counts.{counts_of}
use Rattle.allocation.proofs.TallyLemmas.{fits}
use Rattle.collection.specs.declared.fault.EngineFault.TheVariants as engine_fault
use Rattle.collection.specs.State.{Ram}
use Rattle.collection.specs.Safe.{IsRam}
use Rattle.ftl_device.specs.declared.fault.CallFault.TheVariants as call
use Rattle.ftl_device.specs.declared.fault.CallFault.TheVariants.{Engine}
use Rattle.ftl_device.specs.Shortage.{HasUsed, HasFoundNoBlock, LeavesFiveLaw, TablesLeaveLaw}

pub used_from : (most : ℕ) (old new : Ram) → IsRam old → (u : HasUsed most old new) → Spending old.geometry.pages (counts_of old.blocks) (counts_of new.blocks) u.data_pages u.meta_pages
used_from most old new s u =
    let start : FitsGoodBlocks old.geometry.pages (counts_of old.blocks) = subst (λ (g : Geometry). FitsGoodBlocks g.pages (counts_of old.blocks)) s.blocks_of (fits (free_count old.blocks) old.blocks s.blocks) in
    let all : Spending old.geometry.pages (counts_of old.blocks) (counts_of new.blocks) (0 + u.data_pages) (0 + u.meta_pages) = u.account (counts_of old.blocks) 0 0 (no_page old.geometry.pages (counts_of old.blocks) start) in
    let d : 0 + u.data_pages ≡ u.data_pages = omega arith in
    let m : 0 + u.meta_pages ≡ u.meta_pages = omega arith in
    subst (λ k. Spending old.geometry.pages (counts_of old.blocks) (counts_of new.blocks) u.data_pages k) m (subst (λ k. Spending old.geometry.pages (counts_of old.blocks) (counts_of new.blocks) k (0 + u.meta_pages)) d all)

pub leaves : (most : ℕ) (old new : Ram) → most ≤ 2 → IsRam old → 9 ≤ free_count old.blocks → HasUsed most old new → (5 ≤ free_count new.blocks) ⊎ (3 + good_count new.blocks.table ≤ good_count old.blocks.table)
leaves most old new two s nine u =
    let few : u.data_pages + u.meta_pages + 1 ≤ old.geometry.pages = omega (arith, u.few, old.geometry.limits.page_count.least) in
    let opened = few_openings old.geometry.pages u.data_pages u.meta_pages (counts_of old.blocks) (counts_of new.blocks) (used_from most old new s u) few in
    elim (cases_lt (free_count new.blocks) 5) [ inl less ↦ inr (omega arith) | inr more ↦ inl more ]

pub out : (old new : Ram) → IsRam old → 9 ≤ free_count old.blocks → HasFoundNoBlock 1 old new → 3 + good_count new.blocks.table ≤ good_count old.blocks.table
out old new s nine h =
    let few : h.used.data_pages + h.used.meta_pages + 2 ≤ old.geometry.pages = omega (arith, h.used.few, old.geometry.limits.page_count.least) in
    let gone = stuck h.stream old.geometry.pages h.out.failures h.used.data_pages h.used.meta_pages (counts_of old.blocks) (counts_of h.mid.blocks) (counts_of new.blocks) (used_from 1 old h.mid s h.used) few h.out.found in
    omega (arith, gone.few)

pub leaves_five : LeavesFiveLaw
leaves_five old new (Ok done) s nine h = leaves 2 old new (omega arith) s nine h
leaves_five old new (Err (Engine engine_fault.ReadOnly)) s nine h = out old new s nine h
leaves_five old new (Err (Engine engine_fault.SequenceSpent)) s nine h = tt
leaves_five old new (Err (Engine engine_fault.Damaged)) s nine h = tt
leaves_five old new (Err (Engine engine_fault.Bus)) s nine h = tt
leaves_five old new (Err call.OutOfMemory) s nine h = leaves 1 old new (omega arith) s nine h

pub tables_leave : TablesLeaveLaw
tables_leave old new nine w = record {
  five = elim (cases_lt (free_count new.blocks) 5) [ inl less ↦ inr (omega (arith, w.openings)) | inr more ↦ inl more ];
  four = elim (cases_lt (free_count new.blocks) 4) [ inl less ↦ inr (omega (arith, w.openings)) | inr more ↦ inl more ];
}
