-- What a cut leaves after a loss of power is what a loss of power may leave: operation by operation, and call by call.
use Rattle.std.proofs.Common.{◌≡◌, ◌≢◌, ◌⊎◌, inl, inr, ℕ, ◌+◌, ◌<◌, ◌≤◌, ◌/◌, ◌%◌, Bool, true, List, [], ◌∷◌, ◌++◌, get_or, Some, None, refl, sym, ap, subst, ◌∙◌, arith}
use Rattle.page_layout.specs.View.{View}
use Rattle.page_layout.specs.declared.geometry.Geometry.{Geometry}
use Rattle.page_layout.specs.declared.record.Record.{Record}
use Rattle.page_layout.specs.Page.{Page, Image, IsImage}
use Rattle.page_layout.specs.Array.{marks}
use Rattle.page_layout.specs.Change.{IsUnsoundAt}
use Rattle.page_layout.specs.Flash.{Flash, Operation, Program, Erase, Leads, Steps}
use Rattle.page_layout.specs.Recording.{image_after, image_after_all}
use Rattle.page_layout.proofs.ArrayLemmas.{mark-same}
use Rattle.page_layout.proofs.FlashLemmas.{geometry-Steps, image-program}
use Rattle.promises.specs.Legal.{Account, accounted, IsDueProgram, LegalFrom}
use Rattle.promises.specs.Stop.{LeftBy}
use Rattle.promises.proofs.StopLemmas.{stops_join}
use Rattle.image_laws.specs.Power.{Grows, LosesSince}
use Rattle.image_laws.proofs.PowerLemmas.{both, program_grows, which}
use Rattle.collection.specs.Log.{NumbersFrom}
use Rattle.file_die.specs.Store.{Held, AreImages}
use Rattle.crash_recovery.specs.Torn.{IsCut, row_in}
use Rattle.crash_recovery.specs.Taken.{Takes}
use Rattle.crash_recovery.specs.Laws.{TakesNoneStored}
use Rattle.crash_recovery.proofs.Rows.{page_below, row_split}
use Rattle.crash_recovery.proofs.TakenLemmas.{long_pages}
use Rattle.ftl_device.specs.declared.device.Device.{Device}
use Rattle.disk_laws.specs.Lost.{LostBy}
use Rattle.disk_laws.specs.Runs.{DeviceCalls, IsRecordedCall, NoCall, OneMore, image_on}
use Rattle.disk_laws.specs.Spared.{IsMarkedBehind, LostCutLaw}
use Rattle.disk_laws.specs.StoreRuns.{ErasesPass}
use Rattle.disk_laws.proofs.FitLemmas.{Fits, erase_fits, program_fits, unsound}
use Rattle.disk_laws.proofs.GrowLemmas.{none_then, torn_program}
use Rattle.disk_laws.proofs.InOrderLemmas.{Filled, erase_behind, erase_filled, program_behind, program_filled}
use Rattle.disk_laws.proofs.LogLemmas.{after_erase, after_program, lasts_after, lost_apart}
use Rattle.disk_laws.proofs.LossLemmas.{lost_then}
use Rattle.disk_laws.proofs.RunLemmas.{called_on, lasting, lasts_join, run_image}
use Rattle.disk_laws.proofs.SparedLemmas.{row_taken}
use Rattle.disk_laws.proofs.StoreRunLemmas.{erases_apart}

-- ---- two logs in a row

lost_first : (pages : ℕ) (stored image found : Image) (xs ys : List Operation) → LostBy pages stored image xs found → LostBy pages stored image (xs ++ ys) found
lost_first pages stored image found [] ys by = lost_then pages stored image found ys by
lost_first pages stored image found (Program row page passed left ∷ xs) ys (inl torn) = inl torn
lost_first pages stored image found (Program row page passed left ∷ xs) ys (inr later) = inr (lost_first pages stored (image_after pages image (Program row page passed left)) found xs ys later)
lost_first pages stored image found (Erase block passed left ∷ xs) ys (inl before) = inl before
lost_first pages stored image found (Erase block passed left ∷ xs) ys (inr (inl torn)) = inr (inl torn)
lost_first pages stored image found (Erase block passed left ∷ xs) ys (inr (inr later)) =
    (let now : Image = image_after pages image (Erase block passed left) in inr (inr (lost_first pages now now found xs ys later)))

lost_later : (pages : ℕ) (stored image found : Image) (xs ys : List Operation) → LostBy pages (lasts_after pages stored image xs) (image_after_all pages image xs) ys found → LostBy pages stored image (xs ++ ys) found
lost_later pages stored image found [] ys by = by
lost_later pages stored image found (Program row page passed left ∷ xs) ys by = inr (lost_later pages stored (image_after pages image (Program row page passed left)) found xs ys by)
lost_later pages stored image found (Erase block passed left ∷ xs) ys by =
    (let now : Image = image_after pages image (Erase block passed left) in inr (inr (lost_later pages now now found xs ys by)))

-- ---- no row that is cut was stored

stays : (stored left found : Image) (row : ℕ) (r : Record) → Grows stored left → LosesSince stored left found → get_or (marks stored) row None ≡ Some r → get_or (marks found) row None ≡ Some r
stays stored left found row r grows loses has = elim (loses.rows row) [
  | inl same ↦ mark-same found stored row (same ∙ grows.kept row r has) ∙ has
  | inr lost ↦ absurd (both (get_or (marks stored) row None) r lost.0 has)
]

cut_unstored : (g : Geometry) (stored left found : Image) (mark : ℕ) → ((block : ℕ) → IsMarkedBehind g stored mark block) → Grows stored left → LosesSince stored left found → TakesNoneStored (IsCut g found mark) stored
cut_unstored g stored left found mark behind grows loses row is_cut = elim (which (get_or (marks stored) row None)) [
  | inl none ↦ none
  | inr some ↦
      let block : ℕ = row / g.pages in
      let k : ℕ = row % g.pages in
      let has : get_or (marks stored) (row_in g block k) None ≡ Some some.0 = ap (λ q. get_or (marks stored) q None) (row_split g row) ∙ some.1 in
      let found_has : get_or (marks found) (row_in g block k) None ≡ Some some.0 = stays stored left found (row_in g block k) some.0 grows loses has in
      let first : IsUnsoundAt found (row_in g block is_cut.page) = is_cut.from.first.unsound in
      let apart : is_cut.page ≢ k = λ same. both (get_or (marks found) (row_in g block k) None) some.0 (subst (λ p. IsUnsoundAt found (row_in g block p)) same first) found_has in
      let above : mark ≤ some.0.sequence = is_cut.from.unmarked.unmarked k some.0 is_cut.behind (page_below g row) found_has in
      absurd (elim (which (get_or (marks stored) (row_in g block is_cut.page) None)) [
        | inl none ↦ (let below : some.0.sequence < mark = (behind block).marked is_cut.page k some.0 (omega (arith, is_cut.behind, apart)) (page_below g row) none has in omega (arith, below, above))
        | inr its ↦ both (get_or (marks found) (row_in g block is_cut.page) None) its.0 first (stays stored left found (row_in g block is_cut.page) its.0 grows loses its.1)
      ])
]

-- ---- a log

-- WHAT LASTS AND WHAT IS THERE: pages were programmed alone, and each block of either is marked behind
record MarkedSince (g : Geometry) (mark : ℕ) (stored image : Image) : Type 0 where
  there : (block : ℕ) → IsMarkedBehind g stored mark block
  here : (block : ℕ) → IsMarkedBehind g image mark block
  grows : Grows stored image

since_all : (g : Geometry) (mark : ℕ) (image : Image) → ((block : ℕ) → IsMarkedBehind g image mark block) → MarkedSince g mark image image
since_all g mark image behind = record { there = behind; here = behind; grows = record { size = refl; kept = λ row r has. refl } }

module _ (g : Geometry) (mark : ℕ) where
  -- a die before operations
  record StandsMarked (s : Flash) (accounts : List Account) (next : ℕ) (stored : Image) : Type 0 where
    sized : s.geometry ≡ g
    fits : Fits g.pages s.image accounts next
    filled : Filled g.pages s.image accounts
    since : MarkedSince g mark stored s.image

  program_stands : (s t : Flash) (row : ℕ) (page left : Page) (passed : Bool) (accounts : List Account) (next : ℕ) (stored : Image) (log : List Operation) → StandsMarked s accounts next stored
      → Steps s (Program row page passed left) t → LegalFrom g.pages accounts (Program row page passed left ∷ log) → NumbersFrom next (Program row page passed left ∷ log)
      → StandsMarked t (accounted g.pages accounts (Program row page passed left)) (next + 1) stored × IsUnsoundAt s.image row
  program_stands s t row page left passed accounts next stored log b step legal numbers =
      let op : Operation = Program row page passed left in
      let due : IsDueProgram s.geometry.pages accounts row = subst (λ (h : Geometry). IsDueProgram h.pages accounts row) (sym b.sized) legal.0 in
      let fits : Fits s.geometry.pages s.image accounts next = subst (λ (h : Geometry). Fits h.pages s.image accounts next) (sym b.sized) b.fits in
      let filled : Filled s.geometry.pages s.image accounts = subst (λ (h : Geometry). Filled h.pages s.image accounts) (sym b.sized) b.filled in
      let none : IsUnsoundAt s.image row = unsound s t row page left passed accounts next step due numbers.0 fits in
      let unstored : IsUnsoundAt stored row = none_then g 0 (λ n bytes. Unit {0}) stored s.image row b.since.grows none in (
        record {
          sized = geometry-Steps s t op step ∙ b.sized;
          fits = subst (λ (h : Geometry). Fits h.pages t.image (accounted h.pages accounts op) (next + 1)) b.sized (program_fits s t row page left passed accounts next step due numbers.0 fits);
          filled = subst (λ (h : Geometry). Filled h.pages t.image (accounted h.pages accounts op)) b.sized (program_filled s t row page left passed accounts next step due numbers.0 fits filled);
          since = record {
            there = b.since.there;
            here = λ block. subst (λ h. IsMarkedBehind h t.image mark block) b.sized
                (program_behind s t row page left passed accounts next step due numbers.0 fits filled mark block (λ apart. subst (λ h. IsMarkedBehind h s.image mark block) (sym b.sized) (b.since.here block)));
            grows = subst (Grows stored) (sym (image-program s t row page passed left step)) (program_grows stored s.image row left b.since.grows unstored);
          };
        },
        none,
      )

  erase_stands : (s t : Flash) (block : ℕ) (passed : Bool) (left : List Page) (accounts : List Account) (next : ℕ) (stored : Image) (log : List Operation) → StandsMarked s accounts next stored
      → Steps s (Erase block passed left) t → LegalFrom g.pages accounts (Erase block passed left ∷ log) → passed ≡ true
      → StandsMarked t (accounted g.pages accounts (Erase block passed left)) next t.image
  erase_stands s t block passed left accounts next stored log b step legal passes =
      let op : Operation = Erase block passed left in
      let fits : Fits s.geometry.pages s.image accounts next = subst (λ (h : Geometry). Fits h.pages s.image accounts next) (sym b.sized) b.fits in
      let filled : Filled s.geometry.pages s.image accounts = subst (λ (h : Geometry). Filled h.pages s.image accounts) (sym b.sized) b.filled in
      record {
        sized = geometry-Steps s t op step ∙ b.sized;
        fits = subst (λ (h : Geometry). Fits h.pages t.image (accounted h.pages accounts op) next) b.sized (erase_fits s t block passed left accounts next step legal.0 fits);
        filled = subst (λ (h : Geometry). Filled h.pages t.image (accounted h.pages accounts op)) b.sized (erase_filled s t block passed left accounts next step legal.0 fits filled);
        since = since_all g mark t.image (λ c. subst (λ h. IsMarkedBehind h t.image mark c) b.sized
            (erase_behind s t block passed left accounts next step legal.0 fits filled mark c passes (subst (λ h. IsMarkedBehind h s.image mark c) (sym b.sized) (b.since.here c))));
      }

  since_log : (log : List Operation) (s t : Flash) (accounts : List Account) (next : ℕ) (stored : Image) → StandsMarked s accounts next stored → Leads s log t → LegalFrom g.pages accounts log
      → NumbersFrom next log → ErasesPass log → MarkedSince g mark (lasts_after g.pages stored s.image log) t.image
  since_log [] s t accounts next stored b leads legal numbers passes = subst (λ (u : Flash). MarkedSince g mark stored u.image) (sym leads) b.since
  since_log (Program row page passed left ∷ log) s t accounts next stored b (mid, step, leads) legal numbers passes =
      subst (λ i. MarkedSince g mark (lasts_after g.pages stored i log) t.image) (after_program g.pages s mid row page left passed step)
      (since_log log mid t (accounted g.pages accounts (Program row page passed left)) (next + 1) stored (program_stands s mid row page left passed accounts next stored log b step legal numbers).0 leads legal.1 numbers.1 passes)
  since_log (Erase block passed left ∷ log) s t accounts next stored b (mid, step, leads) legal numbers passes =
      subst (λ i. MarkedSince g mark (lasts_after g.pages i i log) t.image) (after_erase g s mid block passed left b.sized step)
      (since_log log mid t (accounted g.pages accounts (Erase block passed left)) next mid.image (erase_stands s mid block passed left accounts next stored log b step legal passes.0) leads legal.1 numbers passes.1)

  module _ (u v : Held) (w : AreImages u) (takes : Takes (IsCut g u.pages mark) u v) where
    loses_cut : (stored image : Image) → MarkedSince g mark stored image → LosesSince stored image u.pages → LosesSince stored image v.pages
    loses_cut stored image since loses = record {
      size = long_pages (IsCut g u.pages mark) u v w takes ∙ loses.size;
      rows = λ row. elim (row_taken (IsCut g u.pages mark) u v w takes row) [
        | inl same ↦ elim (loses.rows row) [ inl as_left ↦ inl (same ∙ as_left) | inr lost ↦ inr (lost.0, mark-same v.pages u.pages row same ∙ lost.1) ]
        | inr gone ↦ inr (cut_unstored g stored image u.pages mark since.there since.grows loses row gone.0, gone.1)
      ];
    }

    cut_log : (log : List Operation) (s t : Flash) (accounts : List Account) (next : ℕ) (stored : Image) → StandsMarked s accounts next stored → Leads s log t → LegalFrom g.pages accounts log
        → NumbersFrom next log → ErasesPass log → LostBy g.pages stored s.image log u.pages → LostBy g.pages stored s.image log v.pages ⊎ LeftBy g.pages s.image log u.pages
    cut_log [] s t accounts next stored b leads legal numbers passes by = inl (loses_cut stored s.image b.since by)
    cut_log (Program row page passed left ∷ log) s t accounts next stored b (mid, step, leads) legal numbers passes by =
        let goes_on = program_stands s mid row page left passed accounts next stored log b step legal numbers in
        let is : mid.image ≡ image_after g.pages s.image (Program row page passed left) = after_program g.pages s mid row page left passed step in
        elim by [
          | inl torn ↦
              let loses : LosesSince stored s.image u.pages = torn_program g 0 (λ n bytes. Unit {0}) stored s.image u.pages row page left passed b.since.grows goes_on.1 torn in
              inl (inl (s.image, inl refl, loses_cut stored s.image b.since loses))
          | inr later ↦ elim (cut_log log mid t (accounted g.pages accounts (Program row page passed left)) (next + 1) stored goes_on.0 leads legal.1 numbers.1 passes
              (subst (λ i. LostBy g.pages stored i log u.pages) (sym is) later)) [
                | inl lost ↦ inl (inr (subst (λ i. LostBy g.pages stored i log v.pages) is lost))
                | inr killed ↦ inr (inr (subst (λ i. LeftBy g.pages i log u.pages) is killed))
              ]
        ]
    cut_log (Erase block passed left ∷ log) s t accounts next stored b (mid, step, leads) legal numbers passes by =
        let is : mid.image ≡ image_after g.pages s.image (Erase block passed left) = after_erase g s mid block passed left b.sized step in
        elim by [
          | inl before ↦ inl (inl (loses_cut stored s.image b.since before))
          | inr other ↦ elim other [
            | inl torn ↦ inr (inl torn)
            | inr later ↦ elim (cut_log log mid t (accounted g.pages accounts (Erase block passed left)) next mid.image (erase_stands s mid block passed left accounts next stored log b step legal passes.0) leads legal.1 numbers passes.1
                (subst (λ i. LostBy g.pages i i log u.pages) (sym is) later)) [
                  | inl lost ↦ inl (inr (inr (subst (λ i. LostBy g.pages i i log v.pages) is lost)))
                  | inr killed ↦ inr (inr (subst (λ i. LeftBy g.pages i log u.pages) is killed))
                ]
          ]
        ]

-- ---- calls one after another

module _ {N : Type 0} (die : View N) (old : Device N) (mark : ℕ) (behind : (block : ℕ) → IsMarkedBehind old.engine.geometry (image_on die old) mark block) where
  begins : (before : List Operation) (mid : Device N) (log : List Operation) (new : Device N) (run : DeviceCalls die old before mid) (does : IsRecordedCall die mid log new) (stored : Image)
      → MarkedSince old.engine.geometry mark stored (image_on die mid)
      → StandsMarked old.engine.geometry mark (die.flash mid.engine.nand) (called_on die old before mid log new run does).accounts (called_on die old before mid log new run does).next stored
  begins before mid log new run does stored since =
      let c = called_on die old before mid log new run does in
      record { sized = c.die_sized; fits = c.fits; filled = c.filled; since = since }

  since_run : (log : List Operation) (new : Device N) (run : DeviceCalls die old log new) → ErasesPass log → MarkedSince old.engine.geometry mark (lasting die old log) (image_on die new)
  since_run log new NoCall passes = since_all old.engine.geometry mark (image_on die old) behind
  since_run log new (OneMore before mid more last run does) passes =
      let pages : ℕ = old.engine.geometry.pages in
      let c = called_on die old before mid more last run does in
      let each = erases_apart before more passes in
      let now = since_log old.engine.geometry mark more (die.flash mid.engine.nand) (die.flash last.engine.nand) c.accounts c.next (lasting die old before)
      (begins before mid more last run does (lasting die old before) (since_run before mid run each.0)) c.leads c.legal c.numbers each.1 in
      subst (λ i. MarkedSince old.engine.geometry mark i (image_on die last))
      (ap (λ i. lasts_after pages (lasting die old before) i more) (sym (run_image die old before mid run)) ∙ sym (lasts_join die old pages (image_on die old) (image_on die old) before more)) now

  module _ (u v : Held) (w : AreImages u) (takes : Takes (IsCut old.engine.geometry u.pages mark) u v) where
    abbrev LostEither : List Operation → Type 0
    LostEither log = LostBy old.engine.geometry.pages (image_on die old) (image_on die old) log v.pages ⊎ LeftBy old.engine.geometry.pages (image_on die old) log u.pages

    cut_run : (log : List Operation) (new : Device N) (run : DeviceCalls die old log new) → ErasesPass log → LostBy old.engine.geometry.pages (image_on die old) (image_on die old) log u.pages → LostEither log
    cut_run log new NoCall passes by = inl (loses_cut old.engine.geometry mark u v w takes (image_on die old) (image_on die old) (since_all old.engine.geometry mark (image_on die old) behind) by)
    cut_run log new (OneMore before mid more last run does) passes by =
        let pages : ℕ = old.engine.geometry.pages in
        let image : Image = image_on die old in
        let each = erases_apart before more passes in
        let same : image_after_all pages image before ≡ image_on die mid = run_image die old before mid run in
        elim (lost_apart pages image image u.pages before more by) [
          | inl first ↦ elim (cut_run before mid run each.0 first) [
            | inl lost ↦ inl (lost_first pages image image v.pages before more lost)
            | inr killed ↦ inr ((stops_join pages image u.pages before more).1 (inl killed))
          ]
          | inr second ↦
              let c = called_on die old before mid more last run does in
              elim (cut_log old.engine.geometry mark u v w takes more (die.flash mid.engine.nand) (die.flash last.engine.nand) c.accounts c.next (lasting die old before)
              (begins before mid more last run does (lasting die old before) (since_run before mid run each.0)) c.leads c.legal c.numbers each.1
              (subst (λ i. LostBy pages (lasting die old before) i more u.pages) same second)) [
                | inl lost ↦ inl (lost_later pages image image v.pages before more (subst (λ i. LostBy pages (lasting die old before) i more v.pages) (sym same) lost))
                | inr killed ↦ inr ((stops_join pages image u.pages before more).1 (inr (subst (λ i. LeftBy pages i more u.pages) (sym same) killed)))
              ]
        ]

pub lost_cut : {N : Type 0} (die : View N) → LostCutLaw die
lost_cut die old new log run s t mark behind passes w sized m takes =
    let here : Takes (IsCut old.engine.geometry s.pages mark) s t = subst (λ h. Takes (IsCut h s.pages mark) s t) sized takes in
    let whole : IsImage old.engine.geometry t.pages = subst (λ h. IsImage h t.pages) (takes.geometry ∙ sized) (takes.whole w).pages_whole in
    elim (cut_run die old mark behind s t w here log new run passes m.by) [
      | inl lost ↦ inl (record { whole = whole; by = lost })
      | inr killed ↦ inr (record { whole = m.whole; by = killed })
    ]
