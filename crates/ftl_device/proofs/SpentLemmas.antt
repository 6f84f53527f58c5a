-- What a call costs once room was made, one page after another, and what that says of its free and its failed blocks.
use Rattle.std.proofs.Common.{◌≡◌, inl, inr, ℕ, ◌+◌, ◌*◌, ◌<◌, ◌≤◌, ◌⊎◌, ◌∙◌, Bool, true, false, Option, Result, Ok, Err, IfErr, refl, sym, ap, subst, arith}
use Rattle.page_layout.specs.declared.geometry.Geometry.{Geometry}
use Rattle.page_layout.specs.Geometry.{need_at}
use Rattle.bad_blocks.specs.Table.{good_count}
use Rattle.budget.specs.declared.stream.Stream.{Stream}
use Rattle.budget.specs.declared.stream.Stream.TheVariants.{Data, Meta}
use Rattle.budget.specs.Counts.{Counts, FitsGoodBlocks}
use Rattle.budget.specs.Spending.{Spending, IsFunded, data_of, meta_of}
use Rattle.std.proofs.Math.Nat.{mul-le-mul_right}
use Rattle.budget.proofs.AccountLemmas.{one_page, few_openings, stuck}
use Rattle.budget.proofs.RoomLemmas.{funded, put_funded}
use Rattle.std.proofs.lemmas.Bool.{cases_lt, lt-ltb}
use Rattle.allocation.specs.State.{State, free_count}
use Rattle.allocation.specs.Counts.{counts_of}
use Rattle.allocation.proofs.TallyLemmas.{fits}
use Rattle.collection.specs.declared.fault.EngineFault.{EngineFault}
use Rattle.collection.specs.declared.fault.EngineFault.TheVariants.{ReadOnly, SequenceSpent, Damaged, Bus}
use Rattle.collection.specs.State.{Ram}
use Rattle.collection.specs.Safe.{IsRam}
use Rattle.collection.specs.Cost.{HasPut, HasRunOut, PageCosts, WriteBackCosts}
use Rattle.collection.specs.Looks.{IsReadFault}
use Rattle.collection.specs.Collect.{LacksBlocks, RoomCounts, RescueCosts}
use Rattle.collection.specs.Results.{Goes}
use Rattle.ftl_device.specs.declared.fault.CallFault.{CallFault}
use Rattle.ftl_device.specs.declared.fault.CallFault.TheVariants as call
use Rattle.ftl_device.specs.declared.fault.CallFault.TheVariants.{Engine}
use Rattle.ftl_device.specs.Begin.{is_scarce}
use Rattle.ftl_device.specs.Calls.{TellsByMemory, HasMadeRoom}
use Rattle.ftl_device.specs.Shortage.{HasUsed, HasFoundNoBlock, LacksGood, AfterRoom, UsesRoom, FailsRoom, PlaceCosts, RoomCosts, CallRoomCosts, CallShort}
use Rattle.ftl_device.specs.Shortage.{FlushFunded, FlushCounts, FlushShort}
use Rattle.ftl_device.proofs.RoomLemmas.{good_fewer, goes_on}
use Rattle.ftl_device.proofs.FlushLoops.{free_most}
use Rattle.ftl_device.proofs.FlushRooms.{HasTableRoom}
use Rattle.ftl_device.proofs.ShortageLemmas.{used_from, leaves, out}

-- ---- pages

pub used_none : (most : ℕ) (r : Ram) → HasUsed most r r
used_none most r = record {
  data_pages = 0;
  meta_pages = 0;
  few = omega arith;
  account = λ first d m a.
      let e : d + 0 ≡ d = omega arith in
      let f : m + 0 ≡ m = omega arith in
      rw (e, f) a;
}

one_of : (stream : Stream) → data_of stream + meta_of stream ≡ 1
one_of Data = refl
one_of Meta = refl

pub used_put : (stream : Stream) (most : ℕ) (a b : Ram) → 1 ≤ most → HasPut stream a b → HasUsed most a b
used_put stream most a b some p = record {
  data_pages = data_of stream;
  meta_pages = meta_of stream;
  few = omega (arith, one_of stream);
  account = λ first d m acc. one_page stream a.geometry.pages p.failures d m first (counts_of a.blocks) (counts_of b.blocks) acc p.put;
}

pub used_then : (j k most : ℕ) (a b c : Ram) → b.geometry ≡ a.geometry → j + k ≤ most → HasUsed j a b → HasUsed k b c → HasUsed most a c
used_then j k most a b c same few u v = record {
  data_pages = u.data_pages + v.data_pages;
  meta_pages = u.meta_pages + v.meta_pages;
  few = omega (arith, u.few, v.few);
  account = λ first d m acc.
      let P : Geometry → Type 0 = λ g. Spending g.pages first (counts_of b.blocks) (d + u.data_pages) (m + u.meta_pages) → Spending g.pages first (counts_of c.blocks) (d + u.data_pages + v.data_pages) (m + u.meta_pages + v.meta_pages) in
      let step : P a.geometry = subst P same (v.account first (d + u.data_pages) (m + u.meta_pages)) in
      let e : d + (u.data_pages + v.data_pages) ≡ d + u.data_pages + v.data_pages = omega arith in
      let f : m + (u.meta_pages + v.meta_pages) ≡ m + u.meta_pages + v.meta_pages = omega arith in
      rw (e, f) (step (u.account first d m acc));
}

-- what follows programs nothing
pub used_after : (most : ℕ) (a b c : Ram) → c.blocks ≡ b.blocks → HasUsed most a b → HasUsed most a c
used_after most a b c is u = record {
  data_pages = u.data_pages;
  meta_pages = u.meta_pages;
  few = u.few;
  account = λ first d m acc. subst (λ (s : State). Spending a.geometry.pages first (counts_of s) (d + u.data_pages) (m + u.meta_pages)) (sym is) (u.account first d m acc);
}

pub failed_at : (most : ℕ) (stream : Stream) (a c : Ram) → HasRunOut stream a c → HasFoundNoBlock most a c
failed_at most stream a c h = record { mid = a; geometry = refl; used = used_none most a; stream = stream; out = h }

-- ---- a place for an entry

pub place_free : (r : Ram) → HasUsed 1 r r
place_free r = used_none 1 r

pub place_costs : (result : Result (Unit {0}) EngineFault) (a b : Ram) → WriteBackCosts a b result → PlaceCosts a b result
place_costs (Ok done) a b h = used_put Meta 1 a b (omega arith) h
place_costs (Err ReadOnly) a b h = failed_at 0 Meta a b h
place_costs (Err SequenceSpent) a b h = h
place_costs (Err Damaged) a b h = tt
place_costs (Err Bus) a b h = tt

-- ---- room

-- nine blocks are free unless fewer are good than are needed
lacks_or_nine : (a b : Ram) → LacksBlocks 9 a b ⊎ (9 ≤ free_count b.blocks) → (good_count b.blocks.table < need_at a.geometry a.mapping.share) ⊎ (9 ≤ free_count b.blocks)
lacks_or_nine a b (inl few) = inl (omega (arith, few))
lacks_or_nine a b (inr nine) = inr nine

module _ (known : Type 0) where
  pub after_room : (a b : Ram) → IsRam b → HasMadeRoom 9 false a b → (known → RoomCounts 9 0 a b (Ok tt)) → AfterRoom known a b
  after_room a b safe room h = record { safe = safe; room = room; nine = λ k. lacks_or_nine a b (h k).wanted }

  pub room_refused : (fault : EngineFault) (a b : Ram) → TellsByMemory {A = Unit {0}} a b (Err fault) → (known → RoomCounts 9 0 a b (Err fault)) → RoomCosts {A = Option ℕ} known 1 a b (Err fault)
  room_refused ReadOnly a b tells h = inl (record { scarce = tells.0; lacks = λ k. elim (h k) [ inl few ↦ inl (omega (arith, few)) | inr three ↦ inr (omega (arith, three)) ] })
  room_refused SequenceSpent a b tells h = tt
  room_refused Damaged a b tells h = tt
  room_refused Bus a b tells h = tt

  pub place_refused : (fault : EngineFault) (a b c : Ram) → AfterRoom known a b → PlaceCosts b c (Err fault) → RoomCosts {A = Option ℕ} known 1 a c (Err fault)
  place_refused ReadOnly a b c after h = inr
      (record {
        mid = b;
        after = after;
        failed =
            record {
              mid = h.mid;
              geometry = h.geometry;
              used =
                  record { data_pages = h.used.data_pages; meta_pages = h.used.meta_pages; few = omega (arith, h.used.few); account = h.used.account };
              stream = h.stream;
              out = h.out;
            };
      })
  place_refused SequenceSpent a b c after h = tt
  place_refused Damaged a b c after h = tt
  place_refused Bus a b c after h = tt

  -- and the look-up
  pub found_costs : (result : Result (Option ℕ) EngineFault) (a b c d : Ram) (fault : Option EngineFault) → AfterRoom known a b → HasUsed 1 b c → d ≡ record c { fault = fault } → IfErr result IsReadFault → RoomCosts known 1 a d result
  found_costs (Ok row) a b c d fault after u is of_read = record { mid = b; after = after; used = used_after 1 b c d (ap (λ (r : Ram). r.blocks) is) u }
  found_costs (Err ReadOnly) a b c d fault after u is of_read = absurd of_read
  found_costs (Err SequenceSpent) a b c d fault after u is of_read = tt
  found_costs (Err Damaged) a b c d fault after u is of_read = tt
  found_costs (Err Bus) a b c d fault after u is of_read = tt

  pub room_kept : (most : ℕ) (a b c : Ram) → c.blocks ≡ b.blocks → UsesRoom known most a b → UsesRoom known most a c
  room_kept most a b c is u = record { mid = u.mid; after = u.after; used = used_after most u.mid b c is u.used }

  pub room_to_call : (fault : EngineFault) (a b : Ram) → RoomCosts {A = Option ℕ} known 1 a b (Err fault) → CallRoomCosts known 1 a b (Err (Engine fault))
  room_to_call ReadOnly a b h = h
  room_to_call SequenceSpent a b h = tt
  room_to_call Damaged a b h = tt
  room_to_call Bus a b h = tt

  pub call_kept : (fault : CallFault) (a b : Ram) → CallRoomCosts known 1 a b (Err fault) → CallRoomCosts known 2 a b (Err fault)
  call_kept (Engine ReadOnly) a b h = h
  call_kept (Engine SequenceSpent) a b h = tt
  call_kept (Engine Damaged) a b h = tt
  call_kept (Engine Bus) a b h = tt
  call_kept call.OutOfMemory a b h = h

  -- a page of the sector comes after
  mid_is : (a b : Ram) (u : UsesRoom known 1 a b) → b.geometry ≡ a.geometry → b.geometry ≡ u.mid.geometry
  mid_is a b u same = same ∙ sym u.after.room.goes.geometry

  pub room_page : (a b c : Ram) → b.geometry ≡ a.geometry → UsesRoom known 1 a b → HasPut Data b c → UsesRoom known 2 a c
  room_page a b c same u p = record { mid = u.mid; after = u.after; used = used_then 1 1 2 u.mid b c (mid_is a b u same) (omega arith) u.used (used_put Data 1 b c (omega arith) p) }

  pub page_refused : (fault : EngineFault) (a b c : Ram) → b.geometry ≡ a.geometry → UsesRoom known 1 a b → PageCosts Data b c (Err fault) → CallRoomCosts known 2 a c (Err (Engine fault))
  page_refused ReadOnly a b c same u h = inr (record { mid = u.mid; after = u.after; failed = record { mid = b; geometry = mid_is a b u same; used = u.used; stream = Data; out = h } })
  page_refused SequenceSpent a b c same u h = tt
  page_refused Damaged a b c same u h = tt
  page_refused Bus a b c same u h = tt

  -- ---- what that says

  uses_short : (most : ℕ) (a b : Ram) → most ≤ 2 → IsRam a → UsesRoom known most a b → known → LacksGood a b ⊎ (5 ≤ free_count b.blocks)
  uses_short most a b two s u k =
      let fewer = good_fewer a u.mid s u.after.safe u.after.room.goes in
      let acc = used_from most u.mid b u.after.safe u.used in
      elim (u.after.nine k) [
        | inl lacks ↦ inl (inl (omega (arith, acc.good)))
        | inr nine ↦ elim (leaves most u.mid b two u.after.safe nine u.used) [ inl five ↦ inr five | inr three ↦ inl (inr (omega arith)) ]
      ]

  fails_short : (a b : Ram) → IsRam a → FailsRoom known a b → known → LacksGood a b
  fails_short a b s u k =
      let fewer = good_fewer a u.mid s u.after.safe u.after.room.goes in
      let acc = used_from 1 u.mid u.failed.mid u.after.safe u.failed.used in
      elim (u.after.nine k) [
        | inl lacks ↦ inl (omega (arith, acc.good, u.failed.out.found.good))
        | inr nine ↦ (let three = out u.mid b u.after.safe nine u.failed in inr (omega arith))
      ]

  pub call_short : (answer : Result (Unit {0}) CallFault) (a b : Ram) → IsRam a → CallRoomCosts known 2 a b answer → known → CallShort a b answer
  call_short (Ok done) a b s h k = uses_short 2 a b (omega arith) s h k
  call_short (Err (Engine ReadOnly)) a b s h k = elim h [ inl lacks ↦ lacks.lacks k | inr fails ↦ fails_short a b s fails k ]
  call_short (Err (Engine SequenceSpent)) a b s h k = tt
  call_short (Err (Engine Damaged)) a b s h k = tt
  call_short (Err (Engine Bus)) a b s h k = tt
  call_short (Err call.OutOfMemory) a b s h k = uses_short 1 a b (omega arith) s h k

-- ---- a flush

-- more failures leave more slack
slack : (pages few most : ℕ) (s : Counts) → few ≤ most → IsFunded pages few s → IsFunded pages most s
slack pages few most s le f =
    let more : few * pages ≤ most * pages = omega (arith, times pages few most le) in
    record { enough = omega (arith, f.enough) }
  where
    times : (n a b : ℕ) → a ≤ b → a * n ≤ b * n
    times n a b le = mul-le-mul_right n le

pub funded_here : (f : ℕ) (r : Ram) → IsFunded r.geometry.pages f (counts_of r.blocks) → FlushFunded f r r
funded_here f r h = inr (0, omega arith, (let e : f + 0 ≡ f = omega arith in rw e h))

-- room was made, and then a translation page written back
pub written_counts : (f : ℕ) (result : Result (Unit {0}) EngineFault) (a b c : Ram) → IsRam b → b.geometry ≡ a.geometry → RoomCounts 9 f a b (Ok tt) → WriteBackCosts b c result → FlushCounts f a c result
written_counts f (Ok done) a b c s same room p = elim (lacks_or_nine a b room.wanted) [
  | inl few ↦ inl (omega (arith, few, p.put.good))
  | inr nine ↦
      let here : FitsGoodBlocks b.geometry.pages (counts_of b.blocks) = subst (λ (g : Geometry). FitsGoodBlocks g.pages (counts_of b.blocks)) s.blocks_of (fits (free_count b.blocks) b.blocks s.blocks) in
      let its : IsFunded b.geometry.pages p.failures (counts_of c.blocks) = put_funded Meta b.geometry.pages p.failures (counts_of b.blocks) (counts_of c.blocks) here p.put (omega arith) in
      inr (
        room.its_failures + p.failures,
        omega (arith, room.good, p.put.good),
        subst
            (λ (g : Geometry). IsFunded g.pages (f + (room.its_failures + p.failures)) (counts_of c.blocks)) same
            (slack b.geometry.pages p.failures (f + (room.its_failures + p.failures)) (counts_of c.blocks) (omega arith) its),
      )
]
written_counts f (Err ReadOnly) a b c s same room h = elim (lacks_or_nine a b room.wanted) [
  | inl few ↦ inl (omega (arith, few, h.found.good))
  | inr nine ↦ (let gone = free_most h.failures (free_count b.blocks) (counts_of b.blocks).meta_left h.found.none in inr (omega (arith, gone, h.found.good, room.good)))
]
written_counts f (Err SequenceSpent) a b c s same room h = tt
written_counts f (Err Damaged) a b c s same room h = tt
written_counts f (Err Bus) a b c s same room h = tt

pub unroomed_counts : (f : ℕ) (fault : EngineFault) (a b : Ram) → RoomCounts 9 f a b (Err fault) → FlushCounts f a b (Err fault)
unroomed_counts f ReadOnly a b h = elim h [ inl few ↦ inl (omega (arith, few)) | inr three ↦ inr three ]
unroomed_counts f SequenceSpent a b h = tt
unroomed_counts f Damaged a b h = tt
unroomed_counts f Bus a b h = tt

-- one page after another
pub counts_then : (f : ℕ) (result : Result (Unit {0}) EngineFault) (a b c : Ram) → b.geometry ≡ a.geometry → b.mapping.share ≡ a.mapping.share → TellsByMemory b c result → FlushFunded f a b → ((g : ℕ) → IsFunded b.geometry.pages g (counts_of b.blocks) → FlushCounts g b c result) → FlushCounts f a c result
counts_then f (Ok done) a b c same share tells (inl few) h = inl (omega arith)
counts_then f (Ok done) a b c same share tells (inr so) h =
    let needed : need_at b.geometry b.mapping.share ≡ need_at a.geometry a.mapping.share = rw (same, share) refl in
    elim (h (f + so.0) (subst (λ (g : Geometry). IsFunded g.pages (f + so.0) (counts_of b.blocks)) (sym same) so.2)) [
      | inl few ↦ inl (omega arith)
      | inr then ↦
          let e : f + (so.0 + then.0) ≡ f + so.0 + then.0 = omega arith in
          inr (so.0 + then.0, omega (arith, so.1, then.1), rw e (subst (λ (g : Geometry). IsFunded g.pages (f + so.0 + then.0) (counts_of c.blocks)) same then.2))
    ]
counts_then f (Err ReadOnly) a b c same share tells (inl few) h = inl (omega (arith, tells.1))
counts_then f (Err ReadOnly) a b c same share tells (inr so) h =
    let needed : need_at b.geometry b.mapping.share ≡ need_at a.geometry a.mapping.share = rw (same, share) refl in
    elim (h (f + so.0) (subst (λ (g : Geometry). IsFunded g.pages (f + so.0) (counts_of b.blocks)) (sym same) so.2)) [
      | inl few ↦ inl (omega arith)
      | inr three ↦ inr (omega (arith, so.1))
    ]
counts_then f (Err SequenceSpent) a b c same share tells so h = tt
counts_then f (Err Damaged) a b c same share tells so h = tt
counts_then f (Err Bus) a b c same share tells so h = tt

-- the whole of it
pub flush_first : (fault : EngineFault) (a b : Ram) → FlushCounts 0 a b (Err fault) → FlushShort a b (Err (Engine fault))
flush_first ReadOnly a b h = elim h [ inl few ↦ inl few | inr three ↦ inr (omega arith) ]
flush_first SequenceSpent a b h = tt
flush_first Damaged a b h = tt
flush_first Bus a b h = tt

pub flush_room : (fault : EngineFault) (a b c : Ram) → b.geometry ≡ a.geometry → b.mapping.share ≡ a.mapping.share → TellsByMemory {A = Unit {0}} b c (Err fault)
    → FlushFunded 0 a b → ((g : ℕ) → IsFunded b.geometry.pages g (counts_of b.blocks) → RoomCounts 9 g b c (Err fault)) → FlushShort a c (Err (Engine fault))
flush_room fault a b c same share tells so h = flush_first fault a c (counts_then 0 (Err fault) a b c same share tells so (λ g funded. unroomed_counts g fault b c (h g funded)))

-- nine are free for the table pages, or too few good, or too few were good before
pub table_room : (a b c : Ram) → b.geometry ≡ a.geometry → b.mapping.share ≡ a.mapping.share → good_count c.blocks.table ≤ good_count b.blocks.table → FlushFunded 0 a b
    → ((g : ℕ) → IsFunded b.geometry.pages g (counts_of b.blocks) → RoomCounts 9 g b c (Ok tt)) → HasTableRoom a c
table_room a b c same share fewer (inl few) h = inl (inl (omega (arith, few, fewer)))
table_room a b c same share fewer (inr its) h =
    let needed : need_at b.geometry b.mapping.share ≡ need_at a.geometry a.mapping.share = rw (same, share) refl in
    let room = h its.0 (subst (λ (g : Geometry). IsFunded g.pages its.0 (counts_of b.blocks)) (sym same) (let e : 0 + its.0 ≡ its.0 = omega arith in rw (← e) its.2)) in
    elim (lacks_or_nine b c room.wanted) [ inl few ↦ inl (inl (omega (arith, few, needed))) | inr free ↦ inr (free, omega (arith, its.1, fewer)) ]

abbrev engine_err : EngineFault → Result (Unit {0}) EngineFault
engine_err fault = Err fault

pub flush_tables : (fault : EngineFault) (a c d : Ram) → TellsByMemory {A = Unit {0}} c d (Err fault) → (engine_err fault ≡ engine_err ReadOnly → good_count d.blocks.table ≤ good_count c.blocks.table → LacksGood a d) → FlushShort a d (Err (Engine fault))
flush_tables ReadOnly a c d tells h = h refl tells.1
flush_tables SequenceSpent a c d tells h = tt
flush_tables Damaged a c d tells h = tt
flush_tables Bus a c d tells h = tt

-- ---- as a call begins

-- a device that isn't read-only has five free blocks
pub funded_begun : (r : Ram) (ro : Bool) → ro ≡ is_scarce (free_count r.blocks) → ro ≡ false → IsFunded r.geometry.pages 0 (counts_of r.blocks)
funded_begun r ro flag off = elim (cases_lt (free_count r.blocks) 5) [
  | inl less ↦ absurd (let no : true ≡ false = sym (lt-ltb (free_count r.blocks) 5 less) ∙ (sym flag ∙ off) in cc)
  | inr five ↦ funded r.geometry.pages (counts_of r.blocks) five
]

pub five_free : (r : Ram) (ro : Bool) → ro ≡ is_scarce (free_count r.blocks) → ro ≡ false → 5 ≤ free_count r.blocks
five_free r ro flag off = elim (cases_lt (free_count r.blocks) 5) [
  | inl less ↦ absurd (let no : true ≡ false = sym (lt-ltb (free_count r.blocks) 5 less) ∙ (sym flag ∙ off) in cc)
  | inr five ↦ five
]

-- ---- a turn

account_leaves : (a b : Ram) (d m : ℕ) → d + m ≤ 2 → 9 ≤ free_count a.blocks → Spending a.geometry.pages (counts_of a.blocks) (counts_of b.blocks) d m → (5 ≤ free_count b.blocks) ⊎ (3 + good_count b.blocks.table ≤ good_count a.blocks.table)
account_leaves a b d m two nine acc =
    let few : d + m + 1 ≤ a.geometry.pages = omega (arith, a.geometry.limits.page_count.least) in
    let opened = few_openings a.geometry.pages d m (counts_of a.blocks) (counts_of b.blocks) acc few in
    elim (cases_lt (free_count b.blocks) 5) [ inl less ↦ inr (omega arith) | inr more ↦ inl more ]

account_out : (stream : Stream) (a b c : Ram) (d m : ℕ) → d + m ≤ 1 → 9 ≤ free_count a.blocks → Spending a.geometry.pages (counts_of a.blocks) (counts_of b.blocks) d m → HasRunOut stream b c → 3 + good_count c.blocks.table ≤ good_count a.blocks.table
account_out stream a b c d m one nine acc h =
    let few : d + m + 2 ≤ a.geometry.pages = omega (arith, a.geometry.limits.page_count.least) in
    let gone = stuck stream a.geometry.pages h.failures d m (counts_of a.blocks) (counts_of b.blocks) (counts_of c.blocks) acc few h.found in
    omega (arith, gone.few)

module _ (a b c : Ram) (s : IsRam a) (t : IsRam b) (u : IsRam c) (room : HasMadeRoom 9 false a b) (goes : Goes b c) (nine : RoomCounts 9 0 a b (Ok tt)) where
  less_then : good_count c.blocks.table ≤ good_count b.blocks.table
  less_then = good_fewer b c t u (goes_on b c t goes)

  pub rescue_short : (found : Bool) → RescueCosts b c (Ok found) → LacksGood a c ⊎ (5 ≤ free_count c.blocks)
  rescue_short found cost = elim (lacks_or_nine a b nine.wanted) [
    | inl few ↦ inl (inl (omega (arith, few, less_then)))
    | inr free ↦ by found cost free
  ]
    where
      by : (x : Bool) → RescueCosts b c (Ok x) → 9 ≤ free_count b.blocks → LacksGood a c ⊎ (5 ≤ free_count c.blocks)
      by false is free = inr (let e : free_count c.blocks ≡ free_count b.blocks = ap (λ (r : Ram). free_count r.blocks) is in omega arith)
      by true h free = elim (account_leaves b c h.data_pages h.meta_pages h.few free h.programmed.account) [ inl five ↦ inr five | inr three ↦ inl (inr (omega (arith, good_fewer a b s t room.goes))) ]

  pub rescue_stuck : (fault : EngineFault) → RescueCosts b c (Err fault) → CallShort a c (Err (Engine fault))
  rescue_stuck ReadOnly h = elim (lacks_or_nine a b nine.wanted) [
    | inl few ↦ inl (omega (arith, few, less_then))
    | inr free ↦ (let three = account_out h.out.stream b h.mid c h.data_pages h.meta_pages h.few free h.programmed.account h.out.out in inr (omega (arith, good_fewer a b s t room.goes)))
  ]
  rescue_stuck SequenceSpent h = tt
  rescue_stuck Damaged h = tt
  rescue_stuck Bus h = tt

pub unroomed_short : (fault : EngineFault) (a b : Ram) → RoomCounts 9 0 a b (Err fault) → CallShort a b (Err (Engine fault))
unroomed_short ReadOnly a b h = elim h [ inl few ↦ inl (omega (arith, few)) | inr three ↦ inr (omega (arith, three)) ]
unroomed_short SequenceSpent a b h = tt
unroomed_short Damaged a b h = tt
unroomed_short Bus a b h = tt
