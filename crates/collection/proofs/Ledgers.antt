-- What a collection costs, step after step.
use Rattle.std.proofs.Common.{◌≡◌, ◌≢◌, ◌⊎◌, inl, inr, ℕ, ◌+◌, ◌-◌, ◌*◌, ◌<◌, ◌≤◌, min, Bool, true, false, [], ◌∷◌, length, Some, None, Result, Ok, Err, refl, ap, ◌∙◌, subst, arith}
use Rattle.page_layout.specs.declared.geometry.Geometry.{Geometry}
use Rattle.page_layout.specs.Geometry.{translation_pages, vmax_at}
use Rattle.page_layout.specs.Page.{Image}
use Rattle.page_layout.specs.declared.record.Key.{Key}
use Rattle.page_layout.specs.declared.record.Key.TheVariants.{Sector, Translation, Table}
use Rattle.std.specs.Int.{div_ceil}
use Rattle.std.proofs.Math.Nat.{mul-add}
use Rattle.std.proofs.lemmas.Bool.{cases_Bool, cases_lt}
use Rattle.mapping_cache.specs.Mapping.{MappingState}
use Rattle.page_layout.specs.Counter.{counted}
use Rattle.budget.specs.declared.stream.Stream.{Stream}
use Rattle.budget.specs.declared.stream.Stream.TheVariants.{Data, Meta}
use Rattle.budget.specs.Counts.{Counts, FitsGoodBlocks, Erased}
use Rattle.budget.specs.Put.{StreamPut}
use Rattle.budget.specs.Spending.{data_of, meta_of, Collected, Stuck}
use Rattle.budget.proofs.AccountLemmas.{no_page, one_page, collected, stuck}
use Rattle.budget.proofs.CopyLemmas.{copies_fit_at, account_begins, copy_account, write_back_account}
use Rattle.allocation.specs.State.{live_at, free_count, is_closed}
use Rattle.allocation.specs.Counts.{counts_of}
use Rattle.allocation.proofs.SafeLemmas.{free_fits}
use Rattle.allocation.proofs.TallyLemmas.{fits}
use Rattle.allocation.proofs.CountLemmas.{count_within}
use Rattle.collection.specs.State.{Ram}
use Rattle.collection.specs.Safe.{IsRam}
use Rattle.collection.specs.Truth.{IsTrue}
use Rattle.collection.specs.Cost.{HasPut}
use Rattle.collection.specs.Live.{HoldsNoneIn}
use Rattle.collection.specs.Results.{Goes, Refused}
use Rattle.collection.specs.Settle.{SetsMapping, BringsOut}
use Rattle.collection.specs.Collect.{is_due, due_count, waiting, OwesPage, IsAccount, HasBroughtOut, HasWritten, HasErased, HasProgrammed, HasCollected, StreamRunsOut, IsCopied}
use Rattle.collection.specs.Collect.{CollectsFew, OwesNone, IsEmptied, IsThrifty, FaultCosts, CollectCosts, CollectCounts, StepCosts, IsStepped, GoesBut, IsReleased}
use Rattle.bad_blocks.specs.declared.table.TableRow.{TableRow}
use Rattle.bad_blocks.specs.Table.{most_wear}
use Rattle.collection.specs.declared.engine.Pinned.{Pinned}
use Rattle.collection.specs.Left.{IsFew}
use Rattle.collection.specs.Whole.{next_of, erases_after, step_within, busy_of, work_left, IsSoFar, IsUnderWay}
use Rattle.collection.specs.declared.fault.EngineFault.{EngineFault}
use Rattle.collection.specs.declared.fault.EngineFault.TheVariants.{ReadOnly, SequenceSpent, Damaged, Bus}
use Rattle.collection.specs.declared.engine.collect_steps.Progress.{Progress}
use Rattle.collection.specs.declared.engine.collect_steps.Progress.TheVariants as step_is
use Rattle.collection.specs.declared.engine.collect_in_turns.Step.TheVariants as steps
use Rattle.allocation.specs.Laws.{IsLeftButLive}
use Rattle.collection.proofs.Blocks.{left_then}
use Rattle.collection.proofs.Memory.{shut_same, few_moved}
use Rattle.collection.proofs.Batches.{few_batches}
use Rattle.collection.proofs.Puts.{same_then}
use Rattle.collection.proofs.Finds.{none_of_all}
use Rattle.collection.proofs.Lowest.{same_here, holds_none, shut_closed}

pub fit : (r : Ram) → IsRam r → FitsGoodBlocks r.geometry.pages (counts_of r.blocks)
fit r s = (let P : Geometry → Type 0 = λ g. FitsGoodBlocks g.pages (counts_of r.blocks) in subst P s.blocks_of (fits (free_count r.blocks) r.blocks s.blocks))

free_within : (r : Ram) → IsRam r → (counts_of r.blocks).free ≤ r.geometry.blocks
free_within r s = (let x = free_fits (free_count r.blocks) r.blocks s.blocks in rw (← s.blocks_of) x)

-- ---- one page

pub one_of : (stream : Stream) → data_of stream + meta_of stream ≡ 1
one_of Data = omega arith
one_of Meta = omega arith

put_busy : (stream : Stream) (pages blocks f : ℕ) (old new : Counts) → 1 < pages → old.free ≤ blocks → StreamPut stream pages f old new
    → new.good + (blocks + 2 - (new.free + min new.data_left 1 + min new.meta_left 1)) ≤ old.good +
    (blocks + 2 - (old.free + min old.data_left 1 + min old.meta_left 1)) + 1
put_busy Data pages blocks f old new some within p = elim p.put.cases [
  | inl a ↦ omega (arith, a.0, a.1, a.2, p.good, p.other)
  | inr b ↦ elim b [
    | inl c ↦ omega (arith, c.0, c.1, c.2, c.3, p.good, p.other)
    | inr d ↦ omega (arith, d.0, d.1, d.2, p.good, p.other)
  ]
]
put_busy Meta pages blocks f old new some within p = elim p.put.cases [
  | inl a ↦ omega (arith, a.0, a.1, a.2, p.good, p.other)
  | inr b ↦ elim b [
    | inl c ↦ omega (arith, c.0, c.1, c.2, c.3, p.good, p.other)
    | inr d ↦ omega (arith, d.0, d.1, d.2, p.good, p.other)
  ]
]

pub programmed_more : (stream : Stream) (first now new : Ram) (d m : ℕ) → now.geometry ≡ first.geometry → HasProgrammed first now d m → HasPut stream now new → HasProgrammed first new (d + data_of stream) (m + meta_of stream)
programmed_more stream first now new d m same p put = record {
  account = one_page stream first.geometry.pages put.failures d m (counts_of first.blocks) (counts_of now.blocks) (counts_of new.blocks) p.account
      (let P : Geometry → Type 0 = λ g. StreamPut stream g.pages put.failures (counts_of now.blocks) (counts_of new.blocks) in subst P same put.put);
  next = omega (arith, p.next, put.next, put.put.good, one_of stream);
}

-- ---- a collection begins

pub due_most : (flushing : Bool) (first now : Ram) → now.geometry ≡ first.geometry → due_count flushing now ≤ translation_pages first.geometry
due_most flushing first now same = (let x = count_within (is_due flushing now) 0 (translation_pages now.geometry) in rw (← same) x)

pub begun : (flushing : Bool) (block first : ℕ) (r : Ram) (known : Type 0) (x : Image) → IsRam r → (known → IsTrue None r x) → (known → HoldsNoneIn r.geometry.pages block 0 first x) → IsUnderWay flushing block first r r known x x
begun flushing block first r known x s w passed =
    let due : due_count flushing r ≤ translation_pages r.geometry = due_most flushing r r refl in
    record {
      ledger = record {
        steps_taken = [];
        lead = refl;
        copies = 0;
        written = 0;
        copies_are = refl;
        written_are = refl;
        data_pages = 0;
        meta_pages = 0;
        pages = refl;
        programmed = record { account = no_page r.geometry.pages (counts_of r.blocks) (fit r s); next = omega arith };
        account = record {
          flushed = λ on. omega arith;
          share = refl;
          moved = λ off. account_begins r.mapping.share (length r.mapping.moved);
          last = λ off. inl refl;
          once = omega (arith, due);
        };
      };
      order = inl refl;
      busy = omega arith;
      programmed = omega arith;
      truth = λ k. record { same = same_here r x (w k); copies_left = omega arith; few = omega arith; none = passed k };
    }

-- ---- a page is brought out

pub sets_share : (key : Key) (row : ℕ) (old new : MappingState) → SetsMapping key row old new → new.share ≡ old.share
sets_share (Sector n) row old new sets = sets.limits.share
sets_share (Translation t) row old new sets = ap (λ m. m.share) sets
sets_share (Table u) row old new sets = ap (λ m. m.share) sets

pub brings_share : (key : Key) (row : ℕ) (old new : MappingState) → BringsOut key row old new → new.share ≡ old.share
brings_share (Sector n) row old new sets = sets.limits.share
brings_share (Translation t) row old new sets = elim (cases_lt 0 old.share) [
  | inl some ↦ ap (λ m. m.share) (sets.written some)
  | inr none ↦ ap (λ m. m.share) (sets.copied (omega arith))
]
brings_share (Table u) row old new sets = ap (λ m. m.share) sets

pub copied_more : (flushing : Bool) (block first page : ℕ) (old now new : Ram) (known : Type 0) (x y z : Image) → IsRam now → Goes old now
    → Goes now new → 1 < old.geometry.pages → IsUnderWay flushing block first old now known x y → first ≤ page → page < now.geometry.pages
    → HasBroughtOut flushing now new → (known → IsTrue None now y → HoldsNoneIn now.geometry.pages block 0 first y → IsCopied block page now y new z)
    → IsUnderWay flushing block (page + 1) old new known x z
copied_more flushing block first page old now new known x y z s goes then some u ge lt cost call =
    let same : now.geometry ≡ old.geometry = goes.geometry in
    let zero : u.ledger.written ≡ 0 = elim u.order [ inl e ↦ e | inr past ↦ (let p : now.geometry.pages ≡ old.geometry.pages = ap (λ g. g.pages) same in absurd (omega arith)) ] in
    let due : due_count flushing new ≤ translation_pages old.geometry = due_most flushing old new (then.geometry ∙ same) in
    let one = one_of cost.stream in
    let b = put_busy cost.stream now.geometry.pages now.geometry.blocks cost.put.failures (counts_of now.blocks) (counts_of new.blocks) (rw same some) (free_within now s) cost.put.put in
    let more : busy_of new ≤ busy_of now + 1 = rw then.geometry b in
    record {
      ledger = record {
        steps_taken = steps.Copied ∷ u.ledger.steps_taken;
        lead = (now, u.ledger.lead, cost);
        copies = u.ledger.copies + 1;
        written = u.ledger.written;
        copies_are = ap (λ n. n + 1) u.ledger.copies_are;
        written_are = u.ledger.written_are;
        data_pages = u.ledger.data_pages + data_of cost.stream;
        meta_pages = u.ledger.meta_pages + meta_of cost.stream;
        pages = omega (arith, u.ledger.pages, one);
        programmed = programmed_more cost.stream old now new u.ledger.data_pages u.ledger.meta_pages same u.ledger.programmed cost.put;
        account = record {
          flushed = λ on. (let f = u.ledger.account.flushed on in let d = cost.due in omega arith);
          share = brings_share cost.key cost.row now.mapping new.mapping cost.sets ∙ u.ledger.account.share;
          moved = λ off. copy_account old.mapping.share (length old.mapping.moved) u.ledger.copies u.ledger.written (length now.mapping.moved) (length new.mapping.moved) (u.ledger.account.moved off) cost.moved;
          last = λ off. inl zero;
          once = omega (arith, zero, due);
        };
      };
      order = inl zero;
      busy = omega (arith, u.busy, more);
      programmed = omega (arith, u.programmed, cost.put.next);
      truth = λ k.
          let w = u.truth k in
          let c = call k w.same.truth (rw same w.none) in
          record { same = same_then old now new x y z goes then.geometry w.same c.same; copies_left = omega (arith, w.copies_left, c.fewer); few = omega (arith, w.few, c.fewer, cost.moved); none = (let n = c.none in rw (← same) n) };
    }

-- ---- a translation page is written

pub waiting_same : (old now : Ram) → now.geometry ≡ old.geometry → now.mapping.share ≡ old.mapping.share → waiting now ≡ waiting old
waiting_same old now same share = rw (same, share) refl

module _ (flushing : Bool) (old now : Ram) (copies written : ℕ) (same : now.geometry ≡ old.geometry) (a : IsAccount flushing old now copies written) (many : flushing ≡ false → waiting now < length now.mapping.moved) where
  -- what the next one brings
  pub last_then : flushing ≡ false → (old.mapping.share + 1) * (written + 1) + waiting old ≤ length old.mapping.moved + copies + old.mapping.share
  last_then off =
      let account = a.moved off in
      let more = many off in
      let may = waiting_same old now same a.share in
      omega (arith, account, more, may, mul-add (old.mapping.share + 1) written 1)

written_account : (flushing : Bool) (old now new : Ram) (copies written : ℕ) → now.geometry ≡ old.geometry → IsAccount flushing old now copies written → HasWritten flushing now new → IsAccount flushing old new copies (written + 1)
written_account flushing old now new copies written same a cost = record {
  flushed = λ on. (let f = a.flushed on in let d = cost.due in omega arith);
  share = ap (λ m. m.share) cost.mapping ∙ a.share;
  moved = λ off. write_back_account old.mapping.share (length old.mapping.moved) copies written (length now.mapping.moved) (length new.mapping.moved) (a.moved off) (let m = cost.many off in let e = a.share in omega arith);
  last = λ off. inr (last_then flushing old now copies written same a cost.lowest.many off);
  once = (let o = a.once in let d = cost.due in omega arith);
}

pub written_more : (flushing : Bool) (block first : ℕ) (old now new : Ram) (known : Type 0) (x y z : Image) → IsRam now → IsRam new → Goes old now
    → Goes now new → 1 < old.geometry.pages → block < old.geometry.blocks → IsUnderWay flushing block first old now known x y
    → HasWritten flushing now new → (known → IsTrue None now y → HoldsNoneIn now.geometry.pages block 0 first y → IsEmptied block now y new z)
    → IsUnderWay flushing block old.geometry.pages old new known x z
written_more flushing block first old now new known x y z s s' goes then some within u cost call =
    let same : now.geometry ≡ old.geometry = goes.geometry in
    let same' : new.geometry ≡ old.geometry = then.geometry ∙ same in
    let b = put_busy Meta now.geometry.pages now.geometry.blocks cost.put.failures (counts_of now.blocks) (counts_of new.blocks) (rw same some) (free_within now s) cost.put.put in
    let more : busy_of new ≤ busy_of now + 1 = rw then.geometry b in
    record {
      ledger = record {
        steps_taken = steps.WroteBack ∷ u.ledger.steps_taken;
        lead = (now, u.ledger.lead, cost);
        copies = u.ledger.copies;
        written = u.ledger.written + 1;
        copies_are = u.ledger.copies_are;
        written_are = ap (λ n. n + 1) u.ledger.written_are;
        data_pages = u.ledger.data_pages + data_of Meta;
        meta_pages = u.ledger.meta_pages + meta_of Meta;
        pages = omega (arith, u.ledger.pages);
        programmed = programmed_more Meta old now new u.ledger.data_pages u.ledger.meta_pages same u.ledger.programmed cost.put;
        account = written_account flushing old now new u.ledger.copies u.ledger.written same u.ledger.account cost;
      };
      order = inr (omega arith);
      busy = omega (arith, u.busy, more);
      programmed = omega (arith, u.programmed, cost.put.next);
      truth = λ k.
          let w = u.truth k in
          let c = call k w.same.truth (rw same w.none) in
          let h = holds_none new z block s' c.same.truth (rw same' within) c.none in
          record {
            same = same_then old now new x y z goes then.geometry w.same c.same;
            copies_left = omega (arith, w.copies_left, c.none);
            few =
                omega (arith, w.few, c.none, cost.moved);
            none = none_of_all old.geometry.pages block z 0 old.geometry.pages (omega arith)
                (rw (← same') h);
          };
    }

-- ---- what was owed at first

-- in a flush, whose die has share 0, no more translation pages were due at first than sectors were moved
abbrev pub BeginsFew : Bool → Ram → Type 0
BeginsFew flushing old = flushing ≡ true → (old.mapping.share ≡ 0) × (due_count flushing old ≤ length old.mapping.moved)

-- the block had few newest pages at first, and few sectors were moved
pub record BeginsSmall (block : ℕ) (old : Ram) : Type 0 where
  pub small : live_at old.blocks block ≤ vmax_at old.geometry old.mapping.share
  pub moved : live_at old.blocks block + length old.mapping.moved ≤ vmax_at old.geometry old.mapping.share + waiting old

pub begins_small : (r : Ram) (p : Pinned) → IsFew 0 r p → BeginsSmall p.block r
begins_small r p few = record { small = few.small; moved = (let m = few.moved in omega arith) }

module _ (flushing : Bool) (old now : Ram) (copies written : ℕ) (begin : BeginsFew flushing old) (a : IsAccount flushing old now copies written) where
  last_of : (written ≡ 0) ⊎ ((old.mapping.share + 1) * written + waiting old ≤ length old.mapping.moved + copies + old.mapping.share)
  last_of = elim (cases_Bool flushing) [
    | inl on ↦ inr (let b = begin on in let f = a.flushed on in rw b.0 (omega (arith, f, b.1)))
    | inr off ↦ a.last off
  ]

  last_owed : now.geometry ≡ old.geometry → OwesPage flushing now → (old.mapping.share + 1) * (written + 1) + waiting old ≤ length old.mapping.moved + copies + old.mapping.share
  last_owed same owes = elim (cases_Bool flushing) [
    | inl on ↦ (let b = begin on in let f = a.flushed on in let due = owes.due in rw b.0 (omega (arith, f, b.1, due)))
    | inr off ↦ last_then flushing old now copies written same a owes.many off
  ]

-- ---- it ends

pub collected_cost : (flushing : Bool) (block first : ℕ) (old now new : Ram) (known : Type 0) (x y : Image) → IsUnderWay flushing block first old now known x y → OwesNone flushing now → HasErased block now new → HasCollected flushing block old new
collected_cost flushing block first old now new known x y u none e = record { mid = now; ledger = u.ledger; none = none; erase = e }

-- where the die is honest and no more were moved than may wait
pub collected_few : (flushing : Bool) (block first : ℕ) (old now new : Ram) (known : Type 0) (x y : Image) → known → BeginsFew flushing old
    → length old.mapping.moved ≤ waiting old → IsUnderWay flushing block first old now known x y → OwesNone flushing now → HasErased block now new
    → CollectsFew flushing block old new
collected_few flushing block first old now new known x y k begin few u none e =
    let w = u.truth k in
    let copies : u.ledger.copies ≤ live_at old.blocks block = omega (arith, w.copies_left) in
    let last = last_of flushing old now u.ledger.copies u.ledger.written begin u.ledger.account in
    let batches : u.ledger.written ≤ div_ceil (live_at old.blocks block) (old.mapping.share + 1) = elim last [
      | inl none ↦ omega arith
      | inr l ↦ few_batches old.mapping.share (live_at old.blocks block) u.ledger.written (omega arith)
    ] in
    record {
      collected = record { mid = now; ledger = u.ledger; none = none; erase = e };
      copies = copies;
      written = (let o = u.ledger.account.once in omega arith);
    }

erase_busy : (blocks f : ℕ) (old new : Counts) → old.free ≤ blocks → new.free ≤ blocks → Erased f old new → new.good + (blocks + 2 - (new.free + min new.data_left 1 + min new.meta_left 1)) + 1 ≤ old.good + (blocks + 2 - (old.free + min old.data_left 1 + min old.meta_left 1))
erase_busy blocks f old new was within e = omega (arith, e.good, e.free, e.data_same, e.meta_same)

pub less_work : (flushing : Bool) (block first : ℕ) (old now new : Ram) (known : Type 0) (x y : Image) → IsRam now → IsRam new → now.geometry ≡ old.geometry → IsUnderWay flushing block first old now known x y → HasErased block now new → work_left new < work_left old
less_work flushing block first old now new known x y s s' same u e =
    let within : (counts_of new.blocks).free ≤ now.geometry.blocks = (let w = free_within new s' in rw (← e.geometry) w) in
    let b = erase_busy now.geometry.blocks e.failures (counts_of now.blocks) (counts_of new.blocks) (free_within now s) within e.counts in
    let less : busy_of new + 1 ≤ busy_of now = rw e.geometry b in
    omega (arith, less, u.busy, u.programmed, e.next, s'.next)

-- ---- the count

few_pages : (block : ℕ) (old : Ram) (copies written : ℕ) → BeginsSmall block old → copies ≤ live_at old.blocks block
    → (written ≡ 0) ⊎ ((old.mapping.share + 1) * written + waiting old ≤ length old.mapping.moved + copies + old.mapping.share)
    → written ≤ translation_pages old.geometry → copies + written + 1 ≤ old.geometry.pages
few_pages block old copies written few le last once =
    let all : ℕ = live_at old.blocks block + (length old.mapping.moved - waiting old) in
    let fits = copies_fit_at old.geometry old.mapping.share all (let small = few.small in let both = few.moved in omega arith) in
    let batches : written ≤ div_ceil all (old.mapping.share + 1) = elim last [
      | inl none ↦ omega arith
      | inr l ↦ few_batches old.mapping.share all written (omega arith)
    ] in
    omega arith

-- where one more page is owed
few_owed : (flushing : Bool) (block : ℕ) (old now : Ram) (copies written : ℕ) → BeginsFew flushing old → BeginsSmall block old
    → now.geometry ≡ old.geometry → copies + live_at now.blocks block ≤ live_at old.blocks block → IsAccount flushing old now copies written
    → (0 < live_at now.blocks block) ⊎ OwesPage flushing now → copies + written + 2 ≤ old.geometry.pages
few_owed flushing block old now copies written begin few same le a (inl some) =
    let once = a.once in
    let more : (written ≡ 0) ⊎ ((old.mapping.share + 1) * written + waiting old ≤ length old.mapping.moved + (copies + 1) + old.mapping.share) = elim (last_of flushing old now copies written begin a) [ inl none ↦ inl none | inr l ↦ inr (omega arith) ] in
    let f = few_pages block old (copies + 1) written few (omega arith) more (omega arith) in
    omega arith
few_owed flushing block old now copies written begin few same le a (inr owes) =
    let once = a.once in
    let due = owes.due in
    let f = few_pages block old copies (written + 1) few (omega arith) (inr (last_owed flushing old now copies written begin a same owes)) (omega arith) in
    omega arith

pub counts_collected : (flushing : Bool) (block first : ℕ) (old now new : Ram) (known : Type 0) (x y : Image) → IsRam new
    → new.geometry ≡ old.geometry → known → BeginsSmall block old
    → BeginsFew flushing old → IsUnderWay flushing block first old now known x y → HasErased block now new
    → Collected old.geometry.pages (counts_of old.blocks) (counts_of new.blocks)
counts_collected flushing block first old now new known x y s same k small begin u e =
    let w = u.truth k in
    let le : u.ledger.copies ≤ live_at old.blocks block = omega (arith, w.copies_left) in
    let f = few_pages block old u.ledger.copies u.ledger.written small le (last_of flushing old now u.ledger.copies u.ledger.written begin u.ledger.account) (let o = u.ledger.account.once in omega arith) in
    let fits_new : FitsGoodBlocks old.geometry.pages (counts_of new.blocks) = (let P : Geometry → Type 0 = λ g. FitsGoodBlocks g.pages (counts_of new.blocks) in subst P same (fit new s)) in
    collected old.geometry.pages e.failures u.ledger.data_pages u.ledger.meta_pages (counts_of old.blocks) (counts_of now.blocks) (counts_of new.blocks) u.ledger.programmed.account (omega (arith, u.ledger.pages, f)) e.counts fits_new

pub counts_stuck : (flushing : Bool) (block first : ℕ) (old now new : Ram) (known : Type 0) (x y : Image) → now.geometry ≡ old.geometry → known
    → BeginsSmall block old → BeginsFew flushing old
    → IsUnderWay flushing block first old now known x y → (0 < live_at now.blocks block) ⊎ OwesPage flushing now → StreamRunsOut now new
    → Stuck (counts_of old.blocks) (counts_of new.blocks)
counts_stuck flushing block first old now new known x y same k small begin u owed out =
    let w = u.truth k in
    let f = few_owed flushing block old now u.ledger.copies u.ledger.written begin small same w.copies_left u.ledger.account owed in
    stuck out.stream old.geometry.pages out.out.failures u.ledger.data_pages u.ledger.meta_pages (counts_of old.blocks) (counts_of now.blocks) (counts_of new.blocks) u.ledger.programmed.account (omega (arith, u.ledger.pages, f)) out.out.found

thrift : (flushing : Bool) (block first : ℕ) (old now : Ram) (known : Type 0) (x y : Image) → known
    → BeginsSmall block old → BeginsFew flushing old
    → IsUnderWay flushing block first old now known x y → IsThrifty old now
thrift flushing block first old now known x y k small begin u =
    let w = u.truth k in
    let le : u.ledger.copies ≤ live_at old.blocks block = omega (arith, w.copies_left) in
    let f = few_pages block old u.ledger.copies u.ledger.written small le (last_of flushing old now u.ledger.copies u.ledger.written begin u.ledger.account) (let o = u.ledger.account.once in omega arith) in
    omega (arith, u.ledger.programmed.next, u.ledger.pages, f)

pub thrifty_erased : (flushing : Bool) (block first : ℕ) (old now new : Ram) (known : Type 0) (x y : Image) → known
    → BeginsSmall block old → BeginsFew flushing old
    → IsUnderWay flushing block first old now known x y → HasErased block now new → IsThrifty old new
thrifty_erased flushing block first old now new known x y k small begin u e = (let t = thrift flushing block first old now known x y k small begin u in omega (arith, t, e.next, e.counts.good))

pub thrifty_refused : (flushing : Bool) (block first : ℕ) (old now new : Ram) (known : Type 0) (x y : Image) (fault : EngineFault) → known
    → BeginsSmall block old → BeginsFew flushing old
    → IsUnderWay flushing block first old now known x y → FaultCosts now new fault → fault ≢ Damaged → fault ≢ Bus → IsThrifty old new
thrifty_refused flushing block first old now new known x y ReadOnly k small begin u out nd nb = (let t = thrift flushing block first old now known x y k small begin u in omega (arith, t, out.out.next, out.out.found.good))
thrifty_refused flushing block first old now new known x y SequenceSpent k small begin u out nd nb = (let t = thrift flushing block first old now known x y k small begin u in omega (arith, t, out.spent.tried.next, out.spent.tried.tries.good))
thrifty_refused flushing block first old now new known x y Damaged k small begin u out nd nb = absurd (nd refl)
thrifty_refused flushing block first old now new known x y Bus k small begin u out nd nb = absurd (nb refl)

pub refused_cost : (flushing : Bool) (block first : ℕ) (old now new : Ram) (known : Type 0) (x y : Image) (fault : EngineFault) → IsUnderWay flushing block first old now known x y → FaultCosts now new fault → CollectCosts flushing block old new (Err fault)
refused_cost flushing block first old now new known x y ReadOnly u out = record { mid = now; ledger = u.ledger; out = out }
refused_cost flushing block first old now new known x y SequenceSpent u out = record { mid = now; ledger = u.ledger; out = out }
refused_cost flushing block first old now new known x y Damaged u out = tt
refused_cost flushing block first old now new known x y Bus u out = tt

pub refused_counts : (flushing : Bool) (block first : ℕ) (old now new : Ram) (known : Type 0) (x y : Image) (z : Image) (fault : EngineFault) → now.geometry ≡ old.geometry → known
    → BeginsSmall block old → BeginsFew flushing old
    → IsUnderWay flushing block first old now known x y → (fault ≡ ReadOnly → (0 < live_at now.blocks block) ⊎ OwesPage flushing now)
    → FaultCosts now new fault → Refused now y new z fault → CollectCounts old new (Err fault)
refused_counts flushing block first old now new known x y z ReadOnly same k small begin u owed out r = counts_stuck flushing block first old now new known x y same k small begin u (owed refl) out
refused_counts flushing block first old now new known x y z SequenceSpent same k small begin u owed out r = tt
refused_counts flushing block first old now new known x y z Damaged same k small begin u owed out r = r
refused_counts flushing block first old now new known x y z Bus same k small begin u owed out r = tt

-- ---- a step, whichever it was

abbrev pub ok_step : Progress → Result Progress EngineFault
ok_step step = Ok step

pub some_steps : (g : Geometry) → 1 < g.pages
some_steps g = omega (arith, g.limits.page_count.least)

pub ends_erased : (pages : ℕ) (step : Progress) → next_of pages step ≡ None → step ≡ step_is.Erased
ends_erased pages (step_is.Copied page) is = (let no : ⊥ = cc in absurd no)
ends_erased pages step_is.WroteBack is = (let no : ⊥ = cc in absurd no)
ends_erased pages step_is.Erased is = refl

not_erased : (pages next : ℕ) (step : Progress) → next_of pages step ≡ Some next → step ≢ step_is.Erased
not_erased pages next step is e = (let n : next_of pages step ≡ None = ap (next_of pages) e in let no : ⊥ = cc in no)

module _ (flushing : Bool) (block first next : ℕ) (old now new : Ram) (known : Type 0) (x y z : Image) (s : IsRam now) (s' : IsRam new) (goes : Goes old now) (within : block < old.geometry.blocks) (u : IsUnderWay flushing block first old now known x y) where
  step_more : (step : Progress) → Goes now new → next_of old.geometry.pages step ≡ Some next → StepCosts flushing block first now new (Ok step)
      → (known → IsTrue None now y → HoldsNoneIn now.geometry.pages block 0 first y → IsStepped block now y new z step)
      → IsUnderWay flushing block next old new known x z
  step_more (step_is.Copied page) then is cost call =
      let e : page + 1 ≡ next = cc in
      let P : ℕ → Type 0 = λ n. IsUnderWay flushing block n old new known x z in
      subst P e (copied_more flushing block first page old now new known x y z s goes then (some_steps old.geometry) u cost.0 cost.1 cost.2 call)
  step_more step_is.WroteBack then is cost call =
      let e : old.geometry.pages ≡ next = cc in
      let P : ℕ → Type 0 = λ n. IsUnderWay flushing block n old new known x z in
      subst P e (written_more flushing block first old now new known x y z s s' goes then (some_steps old.geometry) within u cost call)
  step_more step_is.Erased then is cost call = (let no : ⊥ = cc in absurd no)

  pub stepped : (step : Progress) → (ok_step step ≢ ok_step step_is.Erased → Goes now new) → next_of old.geometry.pages step ≡ Some next
      → StepCosts flushing block first now new (Ok step)
      → (known → IsTrue None now y → HoldsNoneIn now.geometry.pages block 0 first y → IsStepped block now y new z step)
      → IsUnderWay flushing block next old new known x z
  stepped step then is cost call = step_more step (then (λ e. (let same : step ≡ step_is.Erased = cc in not_erased old.geometry.pages next step is same))) is cost call

pub within_by : (flushing : Bool) (block first pages : ℕ) (now new : Ram) (step : Progress) → pages ≡ now.geometry.pages → StepCosts flushing block first now new (Ok step) → step_within pages step
within_by flushing block first pages now new (step_is.Copied page) same cost = rw same cost.1
within_by flushing block first pages now new step_is.WroteBack same cost = tt
within_by flushing block first pages now new step_is.Erased same cost = tt

pub erased_by : (flushing : Bool) (block first : ℕ) (now new : Ram) (step : Progress) → step ≡ step_is.Erased → StepCosts flushing block first now new (Ok step) → HasErased block now new
erased_by flushing block first now new step is cost = (let P : Progress → Type 0 = λ s. StepCosts flushing block first now new (Ok s) in let c = subst P is cost in c.1)

pub none_due_by : (flushing : Bool) (block first : ℕ) (now new : Ram) (step : Progress) → step ≡ step_is.Erased → StepCosts flushing block first now new (Ok step) → OwesNone flushing now
none_due_by flushing block first now new step is cost = (let P : Progress → Type 0 = λ s. StepCosts flushing block first now new (Ok s) in let c = subst P is cost in c.0)

pub emptied_by : (block : ℕ) (now new : Ram) (y z : Image) (step : Progress) → step ≡ step_is.Erased → IsStepped block now y new z step → IsEmptied block now y new z
emptied_by block now new y z step is k = (let P : Progress → Type 0 = λ s. IsStepped block now y new z s in subst P is k)

pub emptied_then : (block first copies : ℕ) (a b c : Ram) (x y z : Image) → Goes a b → c.geometry ≡ b.geometry → IsSoFar block first copies a x b y → IsEmptied block b y c z → IsEmptied block a x c z
emptied_then block first copies a b c x y z goes after w e = record { same = same_then a b c x y z goes after w.same e.same; none = e.none }

pub still_goes : (pages next : ℕ) (step : Progress) (now new : Ram) → next_of pages step ≡ Some next → (ok_step step ≢ ok_step step_is.Erased → Goes now new) → Goes now new
still_goes pages next step now new is then = then (λ e. (let same : step ≡ step_is.Erased = cc in not_erased pages next step is same))

-- only the last step erases
pub still_erased : (pages : ℕ) (next : ℕ) (step : Progress) (before after : ℕ) → next_of pages step ≡ Some next → after ≡ erases_after step before → after ≡ before
still_erased pages next (step_is.Copied page) before after is h = h
still_erased pages next step_is.WroteBack before after is h = h
still_erased pages next step_is.Erased before after is h = (let no : ⊥ = cc in absurd no)

pub once_erased : (step : Progress) (before after : ℕ) → step ≡ step_is.Erased → after ≡ erases_after step before → after ≡ counted before
once_erased step before after is h = h ∙ ap (λ s. erases_after s before) is

pub room_next : (flushing : Bool) (block first next pages : ℕ) (now new : Ram) (step : Progress) → IsRam new → pages ≡ new.geometry.pages
    → new.geometry ≡ now.geometry → length now.mapping.moved ≤ waiting now + first → next_of pages step ≡ Some next
    → StepCosts flushing block first now new (Ok step) → length new.mapping.moved ≤ waiting new + next
room_next flushing block first next pages now new (step_is.Copied page) s' p same room is cost =
    let e : page + 1 ≡ next = cc in
    let may = waiting_same now new same (brings_share cost.2.key cost.2.row now.mapping new.mapping cost.2.sets) in
    omega (arith, e, cost.0, cost.2.moved, may, room)
room_next flushing block first next pages now new step_is.WroteBack s' p same room is cost = (let e : pages ≡ next = cc in let few = few_moved new s' in omega arith)
room_next flushing block first next pages now new step_is.Erased s' p same room is cost = (let no : ⊥ = cc in absurd no)

pub steps_fall : (flushing : Bool) (block first next pages : ℕ) (now new : Ram) (step : Progress) → IsRam new → next_of pages step ≡ Some next → StepCosts flushing block first now new (Ok step) → 18446744073709551615 - new.next < 18446744073709551615 - now.next
steps_fall flushing block first next pages now new (step_is.Copied page) s' is cost = omega (arith, cost.2.put.next, s'.next)
steps_fall flushing block first next pages now new step_is.WroteBack s' is cost = omega (arith, cost.put.next, s'.next)
steps_fall flushing block first next pages now new step_is.Erased s' is cost = (let no : ⊥ = cc in absurd no)

pub but_then : (block : ℕ) (a b c : Ram) → Goes a b → GoesBut block b c → GoesBut block a c
but_then block a b c x y = record {
  geometry = y.geometry ∙ x.geometry;
  next = omega (arith, x.next, y.next);
  shut = λ k within ne is.
      let first : IsLeftButLive a.blocks b.blocks k = x.shut k within is in
      left_then a.blocks b.blocks c.blocks k first (y.shut k (rw x.geometry within) ne (shut_same a.blocks b.blocks k first ∙ is));
}

pub closed_still : (block : ℕ) (a b : Ram) → Goes a b → block < a.geometry.blocks → is_closed a.blocks block ≡ true → is_closed b.blocks block ≡ true
closed_still block a b goes within closed = (goes.shut block within (shut_closed a.blocks block closed)).closed ∙ closed

pub released_from : (block : ℕ) (a b c : Ram) → Goes a b → block < a.geometry.blocks → is_closed a.blocks block ≡ true → IsReleased block b.blocks c.blocks → IsReleased block a.blocks c.blocks
released_from block a b c goes within closed (inl r) =
    let row = (goes.shut block within (shut_closed a.blocks block closed)).row in
    inl (r.0, r.1 ∙ ap (λ (t : TableRow). min (t.wear + 1) most_wear) row)
released_from block a b c goes within closed (inr r) = inr r

pub undamaged : (a b : Ram) (y z : Image) (fault : EngineFault) → Refused a y b z fault → fault ≢ Damaged
undamaged a b y z ReadOnly r e = (let no : ⊥ = cc in no)
undamaged a b y z SequenceSpent r e = (let no : ⊥ = cc in no)
undamaged a b y z Damaged r e = r
undamaged a b y z Bus r e = (let no : ⊥ = cc in no)
