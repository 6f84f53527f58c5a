-- The rows that are cut, by what was found of each block.
use Rattle.std.proofs.Common.{◌≡◌, ◌⊎◌, inl, inr, ◌<◌, ◌≤◌, ◌/◌, ℕ, Bool, true, false, List, length, get_or, Option, Some, None, IsSome, refl, sym, ap, ◌∙◌, subst, arith}
use Rattle.std.proofs.lemmas.Bool.{both_ways, cases_Bool, cases_lt, cases_order}
use Rattle.std.proofs.lemmas.List.{get_or_past}
use Rattle.std.proofs.lemmas.Nat.{div-mul-add, div_below, mod-mul-add}
use Rattle.page_layout.specs.declared.geometry.Geometry.{Geometry}
use Rattle.page_layout.specs.declared.record.Record.{Record}
use Rattle.page_layout.specs.Geometry.{row_count}
use Rattle.page_layout.specs.Page.{Image}
use Rattle.page_layout.specs.Array.{marks}
use Rattle.page_layout.proofs.GeometryLemmas.{row_within}
use Rattle.crash_recovery.specs.Torn.{FindsCut, FindsCuts, FindsDead, HasSoundRun, IsBehind, IsCut, IsCutFrom, IsDead, IsDeadRow, IsFirstUnsound, IsTorn, NoneCut, NoneDead, NoneIsMarked, SomeCut, SomeDead, row_in}
use Rattle.file_die.specs.Store.{Held, Syncs}
use Rattle.crash_recovery.specs.Taken.{HasTaken, IsOf, LeavesErased, Recovers, RecoversSome, Takes, WasCutBack, WasErasedAgain, lasting}
use Rattle.crash_recovery.specs.Laws.{CutFirstLaw, LeftTornLaw, RecoveredLastsLaw, RecoveredTornLaw}
use Rattle.crash_recovery.proofs.Rows.{page_below}
use Rattle.crash_recovery.proofs.TakesLemmas.{has_taken, takes_more, takes_none, takes_sync, takes_then}

pub has_it : (its : Option Record) → IsSome its → its ≡ None → ⊥
has_it None never none = absurd (cc)
has_it (Some r) is none = cc

-- one page is the first that isn't sound
pub not_before : (g : Geometry) (image : Image) (block page other : ℕ) → IsFirstUnsound g image block page → IsFirstUnsound g image block other → other < page → ⊥
not_before g image block page other first earlier below = has_it (get_or (marks image) (row_in g block other) None) (first.before other below) earlier.unsound

pub one_first : (g : Geometry) (image : Image) (block page other : ℕ) → IsFirstUnsound g image block page → IsFirstUnsound g image block other → page ≡ other
one_first g image block page other first second = elim (cases_order page other) [
  | inl same ↦ same
  | inr (inl below) ↦ absurd (not_before g image block other page second first below)
  | inr (inr above) ↦ absurd (not_before g image block page other first second above)
]

pub block_of : (g : Geometry) (row : ℕ) → row < row_count g → row / g.pages < g.blocks
block_of g row within = div_below row g.pages g.blocks (omega (arith, g.limits.page_count.least)) within

pub behind_cut : (g : Geometry) (image : Image) (mark : ℕ) (cuts : List ℕ) → length cuts ≡ g.blocks → FindsCuts g image mark g.blocks cuts → (row : ℕ) → IsBehind g cuts row → IsCut g image mark row
behind_cut g image mark cuts long finds row behind =
    let from : ℕ = get_or cuts (row / g.pages) 0 in
    let found : FindsCut g image mark (row / g.pages) from = finds.each (row / g.pages) (omega (arith, behind.0, long)) in
    record { page = from; from = found.cut (omega (arith, behind.1, page_below g row)); behind = behind.1 }

pub is_cut_behind : (g : Geometry) (image : Image) (mark block page k : ℕ) → IsCutFrom g image mark block page → page ≤ k → k < g.pages → IsCut g image mark (row_in g block k)
is_cut_behind g image mark block page k from le within = record {
  page = page;
  from = subst (λ b. IsCutFrom g image mark b page) (sym (div-mul-add block g.pages k within)) from;
  behind = subst (λ n. page ≤ n) (sym (mod-mul-add block g.pages k within)) le;
}

pub cut_behind : (g : Geometry) (image : Image) (mark : ℕ) (cuts : List ℕ) → length cuts ≡ g.blocks → FindsCuts g image mark g.blocks cuts → (row : ℕ) → row < row_count g → IsCut g image mark row → IsBehind g cuts row
cut_behind g image mark cuts long finds row within is_cut =
    let block = row / g.pages in
    let from : ℕ = get_or cuts block 0 in
    let inside : block < g.blocks = block_of g row within in
    let found : FindsCut g image mark block from = finds.each block inside in
    elim (cases_lt from g.pages) [
      | inl cuts_it ↦
          let same : from ≡ is_cut.page = one_first g image block from is_cut.page (found.cut cuts_it).first is_cut.from.first in
          (omega (arith, inside, long), omega (arith, is_cut.behind, same))
      | inr past ↦ absurd (found.none past is_cut.page is_cut.from)
    ]

-- ---- one block

pub finds_torn : (g : Geometry) (image : Image) (mark block count : ℕ) → IsTorn g image block → HasSoundRun g image block count → NoneIsMarked g image mark block count → FindsCut g image mark block count
finds_torn g image mark block count torn run unmarked = record {
  most = run.most;
  cut = λ within. record { torn = torn; first = record { within = within; unsound = run.past within; before = run.sound }; unmarked = unmarked };
  none = λ all page from. has_it (get_or (marks image) (row_in g block page) None) (run.sound page (omega (arith, from.first.within, all))) from.first.unsound;
}

pub finds_whole : (g : Geometry) (image : Image) (mark block : ℕ) → ¬ IsTorn g image block → FindsCut g image mark block g.pages
finds_whole g image mark block whole = record {
  most = omega arith;
  cut = λ never. absurd (omega arith);
  none = λ all page from. whole from.torn;
}

pub finds_marked : (g : Geometry) (image : Image) (mark block count : ℕ) → HasSoundRun g image block count → ¬ NoneIsMarked g image mark block count → FindsCut g image mark block g.pages
finds_marked g image mark block count run marked = record {
  most = omega arith;
  cut = λ never. absurd (omega arith);
  none = λ all page from. elim (cases_lt count g.pages) [
    | inl within ↦
        let same : page ≡ count = one_first g image block page count from.first (record { within = within; unsound = run.past within; before = run.sound }) in
        marked (subst (NoneIsMarked g image mark block) same from.unmarked)
    | inr past ↦ has_it (get_or (marks image) (row_in g block page) None) (run.sound page (omega (arith, from.first.within, past))) from.first.unsound
  ];
}

-- ---- the whole store

pub cut_goes : (g : Geometry) (s m t : Held) (mark : ℕ) (cuts passed : List ℕ) → g ≡ s.geometry → m ≡ s → passed ≡ cuts → length cuts ≡ g.blocks → FindsCuts g s.pages mark g.blocks cuts → Takes (IsBehind g passed) m t
    → Takes (IsCut s.geometry s.pages mark) s t
cut_goes g s m t mark cuts passed is same passes long finds takes =
    let here : Takes (IsBehind g cuts) s t = subst (λ (h : Held). Takes (IsBehind g cuts) h t) same (subst (λ cs. Takes (IsBehind g cs) m t) passes takes) in
    subst (λ (x : Geometry). Takes (IsCut x s.pages mark) s t) is (takes_more (IsBehind g cuts) (IsCut g s.pages mark) s t (behind_cut g s.pages mark cuts long finds) here)

pub cut_syncs : (taken : ℕ → Type 0) (s t u : Held) (done : Bool) → Takes taken s t → Syncs t done u → u.geometry ≡ t.geometry → Takes taken s u
cut_syncs taken s t u done takes syncs geometry = takes_then taken s t u takes (takes_sync taken t u done syncs geometry)

pub cut_ends : (g : Geometry) (s m t u : Held) (mark : ℕ) (cuts passed : List ℕ) → g ≡ s.geometry → m ≡ s → passed ≡ cuts → length cuts ≡ g.blocks → FindsCuts g s.pages mark g.blocks cuts → Takes (IsBehind g passed) m t
    → LeavesErased (IsBehind g passed) t → t.geometry ≡ g → Syncs t true u → u.geometry ≡ t.geometry → HasTaken (IsCut s.geometry s.pages mark) s u
cut_ends g s m t u mark cuts passed is same passes long finds takes left kept syncs geometry =
    let here : LeavesErased (IsBehind g cuts) t = subst (λ cs. LeavesErased (IsBehind g cs) t) passes left in
    let all : LeavesErased (IsCut g s.pages mark) t = record {
      erased = λ row within is_cut. here.erased row within (cut_behind g s.pages mark cuts long finds row (subst (λ x. row < row_count x) kept within) is_cut);
    } in
    has_taken (IsCut s.geometry s.pages mark) s t u (cut_goes g s m t mark cuts passed is same passes long finds takes)
    (subst (λ (x : Geometry). LeavesErased (IsCut x s.pages mark) t) is all) syncs geometry

pub cut_none : (g : Geometry) (s : Held) (mark : ℕ) (cuts passed : List ℕ) → g ≡ s.geometry → passed ≡ cuts → length cuts ≡ g.blocks → FindsCuts g s.pages mark g.blocks cuts
    → ((k : ℕ) → k < length passed → g.pages ≤ get_or passed k 0) → NoneCut s.geometry s.pages mark
cut_none g s mark cuts passed is passes long finds whole row within is_cut =
    let its : IsCut g s.pages mark row = subst (λ (x : Geometry). IsCut x s.pages mark row) (sym is) is_cut in
    let behind : IsBehind g cuts row = cut_behind g s.pages mark cuts long finds row (subst (λ x. row < row_count x) (sym is) within) its in
    let stays : (k : ℕ) → k < length cuts → g.pages ≤ get_or cuts k 0 = subst (λ cs. (k : ℕ) → k < length cs → g.pages ≤ get_or cs k 0) passes whole in
    omega (arith, behind.1, stays (row / g.pages) behind.0, page_below g row)

pub cut_some : (g : Geometry) (s : Held) (mark : ℕ) (cuts passed : List ℕ) → g ≡ s.geometry → passed ≡ cuts → length cuts ≡ g.blocks → FindsCuts g s.pages mark g.blocks cuts
    → ((k : ℕ) × (k < length passed) × (get_or passed k 0 < g.pages)) → SomeCut s.geometry s.pages mark
cut_some g s mark cuts passed is passes long finds (k, lt, less) =
    let block : k < g.blocks = omega (arith, lt, ap length passes, long) in
    let from : ℕ = get_or cuts k 0 in
    let page : from < g.pages = subst (λ cs. get_or cs k 0 < g.pages) passes less in
    subst (λ (x : Geometry). SomeCut x s.pages mark) is
    (row_in g k from, row_within g k from block page, is_cut_behind g s.pages mark k from from ((finds.each k block).cut page) (omega arith) page)

-- ---- blocks that are erased again

lasting_is : (s m : Held) → Syncs s true m → m.geometry ≡ s.geometry → m ≡ lasting s
lasting_is s m syncs e = held_is m s.geometry s.pages e syncs.same (syncs.synced refl)
  where
    held_is : (h : Held) (g : Geometry) (pages : Image) → h.geometry ≡ g → h.pages ≡ pages → h.durable ≡ pages → h ≡ record { geometry = g; pages = pages; durable = pages }
    held_is h g pages a b c =
        ap (λ x. record { geometry = x; pages = h.pages; durable = h.durable }) a
        ∙ (ap (λ x. record { geometry = g; pages = x; durable = h.durable }) b ∙ ap (λ x. record { geometry = g; pages = pages; durable = x }) c)

of_dead : (g : Geometry) (image : Image) (dead : List Bool) → length dead ≡ g.blocks → FindsDead g image g.blocks dead → (row : ℕ) → IsOf g dead row → IsDeadRow g image row
of_dead g image dead long finds row is = elim (cases_lt (row / g.pages) g.blocks) [
  | inl within ↦ finds.is (row / g.pages) within is
  | inr past ↦ absurd (both_ways (get_or dead (row / g.pages) false) (get_or_past dead (row / g.pages) false (omega (arith, long, past))) is)
]

dead_of : (g : Geometry) (image : Image) (dead : List Bool) → FindsDead g image g.blocks dead → (row : ℕ) → row < row_count g → IsDeadRow g image row → IsOf g dead row
dead_of g image dead finds row within is = elim (cases_Bool (get_or dead (row / g.pages) false)) [
  | inl told ↦ told
  | inr isnt ↦ absurd (finds.not (row / g.pages) (block_of g row within) isnt is)
]

pub dead_goes : (g : Geometry) (s m n t : Held) (dead passed : List Bool) → g ≡ s.geometry → m ≡ s → passed ≡ dead → length dead ≡ g.blocks → FindsDead g s.pages g.blocks dead → Syncs m true n → n.geometry ≡ m.geometry
    → Takes (IsOf g passed) n t → Takes (IsDeadRow s.geometry s.pages) (lasting s) t
dead_goes g s m n t dead passed is same passes long finds syncs geometry takes =
    let lasts : n ≡ lasting s = lasting_is m n syncs geometry ∙ ap lasting same in
    let here : Takes (IsOf g dead) (lasting s) t = subst (λ (h : Held). Takes (IsOf g dead) h t) lasts (subst (λ bs. Takes (IsOf g bs) n t) passes takes) in
    subst (λ (x : Geometry). Takes (IsDeadRow x s.pages) (lasting s) t) is (takes_more (IsOf g dead) (IsDeadRow g s.pages) (lasting s) t (of_dead g s.pages dead long finds) here)

pub dead_ends : (g : Geometry) (s m n t u : Held) (dead passed : List Bool) → g ≡ s.geometry → m ≡ s → passed ≡ dead → length dead ≡ g.blocks → FindsDead g s.pages g.blocks dead → Syncs m true n → n.geometry ≡ m.geometry
    → Takes (IsOf g passed) n t → LeavesErased (IsOf g passed) t → t.geometry ≡ g → Syncs t true u → u.geometry ≡ t.geometry → HasTaken (IsDeadRow s.geometry s.pages) (lasting s) u
dead_ends g s m n t u dead passed is same passes long finds syncs geometry takes left kept last after =
    let here : LeavesErased (IsOf g dead) t = subst (λ bs. LeavesErased (IsOf g bs) t) passes left in
    let all : LeavesErased (IsDeadRow g s.pages) t = record {
      erased = λ row within is_dead. here.erased row within (dead_of g s.pages dead finds row (subst (λ x. row < row_count x) kept within) is_dead);
    } in
    has_taken (IsDeadRow s.geometry s.pages) (lasting s) t u (dead_goes g s m n t dead passed is same passes long finds syncs geometry takes)
    (subst (λ (x : Geometry). LeavesErased (IsDeadRow x s.pages) t) is all) last after

pub dead_none : (g : Geometry) (s : Held) (dead passed : List Bool) → g ≡ s.geometry → passed ≡ dead → length dead ≡ g.blocks → FindsDead g s.pages g.blocks dead → ((k : ℕ) → k < length passed → get_or passed k false ≡ false)
    → NoneDead s.geometry s.pages
dead_none g s dead passed is passes long finds whole block within is_dead =
    let inside : block < g.blocks = subst (λ (x : Geometry). block < x.blocks) (sym is) within in
    let stays : (k : ℕ) → k < length dead → get_or dead k false ≡ false = subst (λ bs. (k : ℕ) → k < length bs → get_or bs k false ≡ false) passes whole in
    finds.not block inside (stays block (subst (λ n. block < n) (sym long) inside)) (subst (λ (x : Geometry). IsDead x s.pages block) (sym is) is_dead)

pub dead_some : (g : Geometry) (s : Held) (dead passed : List Bool) → g ≡ s.geometry → passed ≡ dead → length dead ≡ g.blocks → FindsDead g s.pages g.blocks dead → ((k : ℕ) × (k < length passed) × (get_or passed k false ≡ true))
    → SomeDead s.geometry s.pages
dead_some g s dead passed is passes long finds (k, lt, told) =
    let block : k < g.blocks = omega (arith, lt, ap length passes, long) in
    subst (λ (x : Geometry). SomeDead x s.pages) is (k, block, finds.is k block (subst (λ bs. get_or bs k false ≡ true) passes told))

-- ---- both

pub was_cut : (mark : ℕ) (s t : Held) → SomeCut s.geometry s.pages mark → HasTaken (IsCut s.geometry s.pages mark) s t → WasCutBack mark s t
was_cut mark s t some taken = record { some = some; taken = taken }

pub was_erased : (s t : Held) → SomeDead s.geometry s.pages → HasTaken (IsDeadRow s.geometry s.pages) (lasting s) t → WasErasedAgain s t
was_erased s t some taken = record { some = some; taken = taken }

pub recovers_end : (mark : ℕ) (s m t : Held) (changed : Bool) → m ≡ s → NoneCut s.geometry s.pages mark → (changed ≡ true → WasErasedAgain m t) → (changed ≡ false → t ≡ m)
    → (changed ≡ false → NoneDead m.geometry m.pages) → Recovers mark s t changed
recovers_end mark s m t true same uncut erased untouched undead = inr (uncut, subst (λ (h : Held). WasErasedAgain h t) same (erased refl))
recovers_end mark s m t false same uncut erased untouched undead = (
  untouched refl ∙ same,
  record { uncut = uncut; undead = subst (λ (h : Held). NoneDead h.geometry h.pages) same (undead refl) },
)

pub recovers_some : (mark : ℕ) (s m t : Held) → m ≡ s → (Syncs m false t) ⊎ ((t ≡ m) ⊎ Takes (IsDeadRow m.geometry m.pages) (lasting m) t) → RecoversSome mark s t
recovers_some mark s m t same (inl syncs) = inr (inl (subst (λ (h : Held). Syncs h false t) same syncs))
recovers_some mark s m t same (inr (inl is)) = inl (subst (λ (h : Held). Takes (IsCut s.geometry s.pages mark) s h) (sym (is ∙ same)) (takes_none (IsCut s.geometry s.pages mark) s))
recovers_some mark s m t same (inr (inr takes)) = inr (inr (subst (λ (h : Held). Takes (IsDeadRow h.geometry h.pages) (lasting h) t) same takes))

-- ---- what that comes to

pub recovered_lasts : RecoveredLastsLaw
recovered_lasts mark s t (inl cut) = cut.taken.lasts
recovered_lasts mark s t (inr (uncut, erased)) = erased.taken.lasts

pub recovered_torn : RecoveredTornLaw
recovered_torn mark s t (inl cut) nothing = nothing.uncut cut.some.0 cut.some.1 cut.some.2
recovered_torn mark s t (inr (uncut, erased)) nothing = nothing.undead erased.some.0 erased.some.1 erased.some.2

pub cut_first : CutFirstLaw
cut_first mark s t (inl cut) some = cut.taken
cut_first mark s t (inr (uncut, erased)) some = absurd (uncut some.0 some.1 some.2)

pub left_torn : LeftTornLaw
left_torn g image mark block nothing lt torn = record {
  holds = λ none. nothing.undead block lt (record { torn = torn; none = none });
  marked = λ page first unmarked. nothing.uncut (row_in g block page) (row_within g block page lt first.within)
      (is_cut_behind g image mark block page page (record { torn = torn; first = first; unmarked = unmarked }) (omega arith) first.within);
}
