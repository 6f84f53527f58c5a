-- A cut that spares each newest page: of which images it does, and that an opening keeps it so.
use Rattle.std.proofs.Common.{◌≡◌, ◌≢◌, ◌⊎◌, inl, inr, ◌<◌, ◌≤◌, ◌/◌, ◌%◌, ℕ, Bool, true, false, get_or, slice_get, Some, None, refl, sym, ap, ◌∙◌, subst, arith}
use Rattle.std.proofs.lemmas.Bool.{cases_eq}
use Rattle.std.proofs.lemmas.Nat.{div-mul-add, mod-mul-add}
use Rattle.page_layout.specs.declared.geometry.Geometry.{Geometry}
use Rattle.page_layout.specs.declared.record.Key.{Key}
use Rattle.page_layout.specs.declared.record.Record.{Record}
use Rattle.page_layout.specs.Page.{Image}
use Rattle.page_layout.specs.Array.{marks, HasOneArray}
use Rattle.page_layout.specs.Newest.{newest}
use Rattle.page_layout.specs.Change.{HoldsNone, IsUnsoundAt, Keeps}
use Rattle.page_layout.proofs.ArrayLemmas.{mark-same}
use Rattle.page_layout.proofs.NewestLemmas.{Forgets, newest-record, newest_forgets}
use Rattle.page_layout.proofs.StepLemmas.{none_live}
use Rattle.page_layout.specs.Live.{live}
use Rattle.image_check.specs.Torn.{StandsFor}
use Rattle.image_laws.proofs.PowerLemmas.{both}
use Rattle.file_die.specs.Store.{Held, AreImages}
use Rattle.crash_recovery.specs.Torn.{IsCut, IsDeadRow, row_in}
use Rattle.crash_recovery.specs.Taken.{Recovers, RecoversSome, Takes, lasting}
use Rattle.crash_recovery.specs.Laws.{TakesNoNewest}
use Rattle.crash_recovery.proofs.Rows.{page_below, row_split, same_at, unsound_in}
use Rattle.crash_recovery.proofs.TakenLemmas.{dead, dead_spare, long_pages, spare}
use Rattle.crash_recovery.proofs.TakesLemmas.{takes_none}
use Rattle.disk_laws.specs.Spared.{AllMarkedLaw, CutSparesLaw, CutsSpare, IsMarkedBehind, IsRecoveredOften, IsRecoveredOnce, LaterMarkLaw, NotOpened, OpenedOnce, OpeningSparesLaw, UnmarkedBehindLaw}

-- ---- which images

pub all_marked : AllMarkedLaw
all_marked g image mark below block = inl (record { marked = λ a k r order within none has. below.below (row_in g block k) r has })

pub later_mark : LaterMarkLaw
later_mark g image mark later le cuts block = elim (cuts block) [
  | inl behind ↦ inl (record { marked = λ a k r order within none has. (let lt = behind.marked a k r order within none has in omega (arith, le, lt)) })
  | inr none ↦ inr none
]

pub cut_spares : CutSparesLaw
cut_spares g image mark cuts row is_cut key top = elim (cuts (row / g.pages)) [
  | inl behind ↦
      let its = newest-record (marks image) key row top in
      let block : ℕ = row / g.pages in
      let has : get_or (marks image) (row_in g block (row % g.pages)) None ≡ Some its.0 = ap (λ q. get_or (marks image) q None) (row_split g row) ∙ its.1 in
      let first = is_cut.from.first.unsound in
      let apart : is_cut.page ≢ row % g.pages = λ same. both (get_or (marks image) (row_in g block (row % g.pages)) None) its.0 (subst (λ k. IsUnsoundAt image (row_in g block k)) same first) has in
      let below : its.0.sequence < mark = behind.marked is_cut.page (row % g.pages) its.0 (omega (arith, is_cut.behind, apart)) (page_below g row) first has in
      let above : mark ≤ its.0.sequence = is_cut.from.unmarked.unmarked (row % g.pages) its.0 is_cut.behind (page_below g row) has in
      omega (arith, below, above)
  | inr none ↦ none.none key row top refl
]

pub unmarked : UnmarkedBehindLaw
unmarked g image mark block a k key r order within none top has above cuts = elim (cuts block) [
  | inl behind ↦ (let below = behind.marked a k r order within none has in omega (arith, below, above))
  | inr empty ↦ empty.none key (row_in g block k) top (div-mul-add block g.pages k within)
]

-- ---- one image after another

-- the block has the marks that it had
pub behind_same : (g : Geometry) (a b : Image) (mark block : ℕ) → ((k : ℕ) → k < g.pages → get_or (marks b) (row_in g block k) None ≡ get_or (marks a) (row_in g block k) None)
    → IsMarkedBehind g a mark block → IsMarkedBehind g b mark block
behind_same g a b mark block same behind = record {
  marked = λ x k r order within none has. behind.marked x k r order within (sym (same x (omega (arith, order, within))) ∙ none) (sym (same k within) ∙ has);
}

-- each newest page is where it was
pub empty_same : (pages : ℕ) (a b : Image) (block : ℕ) → ((key : Key) → newest (marks b) key ≡ newest (marks a) key) → HoldsNone pages block a → HoldsNone pages block b
empty_same pages a b block same none = record { none = λ key row top. none.none key row (sym (same key) ∙ top) }

pub spare_same : (g : Geometry) (a b : Image) (mark : ℕ) → marks b ≡ marks a → CutsSpare g a mark → CutsSpare g b mark
spare_same g a b mark same cuts block = elim (cuts block) [
  | inl behind ↦ inl (behind_same g a b mark block (λ k within. ap (λ ms. get_or ms (row_in g block k) None) same) behind)
  | inr none ↦ inr (empty_same g.pages a b block (λ key. ap (λ ms. newest ms key) same) none)
]

-- a page of another block
pub apart_row : (g : Geometry) (b block k : ℕ) → k < g.pages → b ≢ block → row_in g b k / g.pages ≢ block
apart_row g b block k within apart here = apart (sym (div-mul-add b g.pages k within) ∙ here)

-- a block that holds no newest page is changed alone, and none that counts
pub spare_lost : (g : Geometry) (a b : Image) (mark block : ℕ) → Keeps g a b → HoldsNone g.pages block a → ((row : ℕ) → row / g.pages ≢ block → slice_get b row ≡ slice_get a row) → CutsSpare g a mark → CutsSpare g b mark
spare_lost g a b mark block keeps none others cuts c = elim (cases_eq c block) [
  | inl is ↦ inr (empty_same g.pages a b c keeps.newest_same (subst (λ x. HoldsNone g.pages x a) (sym is) none))
  | inr apart ↦ elim (cuts c) [
    | inl behind ↦ inl (behind_same g a b mark c (λ k within. mark-same b a (row_in g c k) (others (row_in g c k) (apart_row g c block k within apart))) behind)
    | inr empty ↦ inr (empty_same g.pages a b c keeps.newest_same empty)
  ]
]

-- ---- rows are taken

module _ (taken : ℕ → Type 0) (s t : Held) (w : AreImages s) (takes : Takes taken s t) where
  pub row_taken : (row : ℕ) → (slice_get t.pages row ≡ slice_get s.pages row) ⊎ (taken row × IsUnsoundAt t.pages row)
  row_taken row = elim (takes.pages row) [
    | inl same ↦ inl (same_at t.pages s.pages row (long_pages taken s t w takes) same)
    | inr gone ↦ inr (gone.0, unsound_in t.pages row gone.1)
  ]

  mark_taken : (row : ℕ) → (get_or (marks t.pages) row None ≡ get_or (marks s.pages) row None) ⊎ (taken row × IsUnsoundAt t.pages row)
  mark_taken row = elim (row_taken row) [ inl same ↦ inl (mark-same t.pages s.pages row same) | inr gone ↦ inr gone ]

  was : (row : ℕ) (r : Record) → get_or (marks t.pages) row None ≡ Some r → get_or (marks s.pages) row None ≡ Some r
  was row r has = elim (mark_taken row) [ inl same ↦ sym same ∙ has | inr gone ↦ absurd (both (get_or (marks t.pages) row None) r gone.1 has) ]

  module _ (one : HasOneArray s.geometry s.pages) where
    pub one_taken : HasOneArray s.geometry t.pages
    one_taken = record {
      distinct = record { apart = λ a b x y p q e. one.distinct.apart a b x y (was a x p) (was b y q) e };
      in_range = λ row r has. one.in_range row r (was row r has);
    }

    newest_taken : TakesNoNewest taken s.pages → (key : Key) → newest (marks t.pages) key ≡ newest (marks s.pages) key
    newest_taken none key =
        let forgets : Forgets (marks s.pages) (marks t.pages) = record { at = λ row. elim (mark_taken row) [ inl same ↦ inl same | inr gone ↦ inr gone.1 ] } in
        newest_forgets (marks s.pages) (marks t.pages) key one.distinct forgets (λ row is. elim (mark_taken row) [ inl same ↦ same | inr gone ↦ absurd (none row gone.0 key is) ])

-- what is left of a store that was recovered, against what was found
pub record IsSpared (g : Geometry) (mark : ℕ) (found left : Image) : Type 0 where
  pub stands : StandsFor g found left
  pub one : HasOneArray g left
  pub cuts : CutsSpare g left mark

-- torn blocks are cut back
module _ (mark : ℕ) (s t : Held) (w : AreImages s) (one : HasOneArray s.geometry s.pages) (cuts : CutsSpare s.geometry s.pages mark) (takes : Takes (IsCut s.geometry s.pages mark) s t) where
  -- no page of a block that is marked behind is cut but for those without a record
  still_behind : (block : ℕ) → IsMarkedBehind s.geometry s.pages mark block → IsMarkedBehind s.geometry t.pages mark block
  still_behind block behind = record {
    marked = λ a k r order within none has.
        let g : Geometry = s.geometry in
        let here : get_or (marks s.pages) (row_in g block k) None ≡ Some r = was (IsCut g s.pages mark) s t w takes (row_in g block k) r has in
        let in_a : a < g.pages = omega (arith, order, within) in
        elim (mark_taken (IsCut g s.pages mark) s t w takes (row_in g block a)) [
          | inl same ↦ behind.marked a k r order within (sym same ∙ none) here
          | inr gone ↦
              let of_page : row_in g block a % g.pages ≡ a = mod-mul-add block g.pages a in_a in
              let first : IsUnsoundAt s.pages (row_in g block gone.0.page) = subst (λ b. IsUnsoundAt s.pages (row_in g b gone.0.page)) (div-mul-add block g.pages a in_a) gone.0.from.first.unsound in
              behind.marked gone.0.page k r (omega (arith, gone.0.behind, of_page, order)) within first here
        ];
  }

  spared_cut : IsSpared s.geometry mark s.pages t.pages
  spared_cut =
      let g : Geometry = s.geometry in
      let none : TakesNoNewest (IsCut g s.pages mark) s.pages = cut_spares g s.pages mark cuts in
      record {
        stands = spare mark s t w one none takes;
        one = one_taken (IsCut g s.pages mark) s t w takes one;
        cuts = λ block. elim (cuts block) [
          | inl behind ↦ inl (still_behind block behind)
          | inr empty ↦ inr (empty_same g.pages s.pages t.pages block (newest_taken (IsCut g s.pages mark) s t w takes one none) empty)
        ];
      }

-- blocks without a newest page are erased again
spared_dead : (mark : ℕ) (s t : Held) → AreImages s → HasOneArray s.geometry s.pages → CutsSpare s.geometry s.pages mark → Takes (IsDeadRow s.geometry s.pages) (lasting s) t → IsSpared s.geometry mark s.pages t.pages
spared_dead mark s t w one cuts takes =
    let g : Geometry = s.geometry in
    let all : AreImages (lasting s) = record { pages_whole = w.pages_whole; durable_whole = w.pages_whole } in
    let same : (key : Key) → newest (marks t.pages) key ≡ newest (marks s.pages) key = newest_taken (IsDeadRow g s.pages) (lasting s) t all takes one (dead g s.pages one) in
    record {
      stands = (dead_spare s t w one takes).0;
      one = one_taken (IsDeadRow g s.pages) (lasting s) t all takes one;
      cuts = λ block. elim (cases_eq (live g (marks s.pages) block) 0) [
        | inl none ↦ inr (empty_same g.pages s.pages t.pages block same (none_live g block s.pages one none))
        | inr some ↦ elim (cuts block) [
          | inl behind ↦ inl (behind_same g s.pages t.pages mark block (λ k within. elim (mark_taken (IsDeadRow g s.pages) (lasting s) t all takes (row_in g block k)) [
            | inl as_was ↦ as_was
            | inr gone ↦ absurd (some (subst (λ b. live g (marks s.pages) b ≡ 0) (div-mul-add block g.pages k within) gone.0.none))
          ]) behind)
          | inr empty ↦ inr (empty_same g.pages s.pages t.pages block same empty)
        ]
      ];
    }

spared_still : (g : Geometry) (mark : ℕ) (a b : Image) → HasOneArray g a → CutsSpare g a mark → b ≡ a → IsSpared g mark a b
spared_still g mark a b one cuts same = subst (IsSpared g mark a) (sym same) (record { stands = record { array = refl; stale = refl; mountable = λ c m. m }; one = one; cuts = cuts })

-- as far as it came, or whole
pub recovers_some : (mark : ℕ) (s t : Held) (changed : Bool) → Recovers mark s t changed → RecoversSome mark s t
recovers_some mark s t true (inl cut) = inl cut.taken.takes
recovers_some mark s t true (inr (uncut, erased)) = inr (inr erased.taken.takes)
recovers_some mark s t false (same, nothing) = inl (subst (Takes (IsCut s.geometry s.pages mark) s) (sym same) (takes_none (IsCut s.geometry s.pages mark) s))

pub spared_some : (mark : ℕ) (s t : Held) → AreImages s → HasOneArray s.geometry s.pages → CutsSpare s.geometry s.pages mark → RecoversSome mark s t → IsSpared s.geometry mark s.pages t.pages
spared_some mark s t w one cuts (inl takes) = spared_cut mark s t w one cuts takes
spared_some mark s t w one cuts (inr (inl syncs)) = spared_still s.geometry mark s.pages t.pages one cuts syncs.same
spared_some mark s t w one cuts (inr (inr takes)) = spared_dead mark s t w one cuts takes

pub once_some : (mark : ℕ) (s t : Held) (once : IsRecoveredOnce mark s t) → RecoversSome mark once.opened t
once_some mark s t once = elim once.taken [ inl whole ↦ recovers_some mark once.opened t whole.0 whole.1 | inr some ↦ some ]

pub spared_once : (g : Geometry) (mark : ℕ) (s t : Held) → s.geometry ≡ g → HasOneArray g s.pages → CutsSpare g s.pages mark → IsRecoveredOnce mark s t → IsSpared g mark s.pages t.pages
spared_once g mark s t sized one cuts once =
    let same : once.opened.geometry ≡ g = once.opened_as ∙ sized in
    let P : Geometry → Image → Type 0 = λ h i. IsSpared h mark i t.pages in
    subst (λ h. P h s.pages) same (subst (P once.opened.geometry) once.pages
    (spared_some mark once.opened t once.images
    (subst (HasOneArray once.opened.geometry) (sym once.pages) (subst (λ h. HasOneArray h s.pages) (sym same) one))
    (subst (λ i. CutsSpare once.opened.geometry i mark) (sym once.pages) (subst (λ h. CutsSpare h s.pages mark) (sym same) cuts))
    (once_some mark s t once)))

-- ---- openings one after another

pub stands_then : (g : Geometry) (a b c : Image) → StandsFor g a b → StandsFor g b c → StandsFor g a c
stands_then g a b c x y = record { array = y.array ∙ x.array; stale = y.stale ∙ x.stale; mountable = λ capacity m. y.mountable capacity (x.mountable capacity m) }

pub often_sized : (mark : ℕ) (s t : Held) → IsRecoveredOften mark s t → t.geometry ≡ s.geometry
often_sized mark s t NotOpened = refl
often_sized mark s t (OpenedOnce mid last often once) = once.geometry ∙ (once.opened_as ∙ often_sized mark s mid often)

pub spared_often : (g : Geometry) (mark : ℕ) (s t : Held) → s.geometry ≡ g → HasOneArray g s.pages → CutsSpare g s.pages mark → IsRecoveredOften mark s t → IsSpared g mark s.pages t.pages
spared_often g mark s t sized one cuts NotOpened = spared_still g mark s.pages s.pages one cuts refl
spared_often g mark s t sized one cuts (OpenedOnce mid last often once) =
    let first = spared_often g mark s mid sized one cuts often in
    let then = spared_once g mark mid last (often_sized mark s mid often ∙ sized) first.one first.cuts once in
    record { stands = stands_then g s.pages mid.pages last.pages first.stands then.stands; one = then.one; cuts = then.cuts }

pub opening_spares : OpeningSparesLaw
opening_spares mark s t one cuts often =
    let all = spared_often s.geometry mark s t refl one cuts often in
    (all.stands, all.one, all.cuts, often_sized mark s t often)
