-- What the cycles of a die leave in its store.
use Rattle.std.proofs.Common.{◌≡◌, ◌∙◌, ◌<◌, ◌⊎◌, inl, inr, ap, refl, sym, subst, arith, ℕ, Bool, true, false, List, [], ◌∷◌, Option, Some, None}
use Rattle.std.proofs.lemmas.Bool.{both_ways, cases_eq}
use Rattle.std.proofs.lemmas.List.{get_or-set_same}
use Rattle.std.proofs.lemmas.Option.{none-some}
use Rattle.page_layout.specs.Page.{Image, Page}
use Rattle.page_layout.specs.Sound.{record_of}
use Rattle.page_layout.specs.Flash.{Flash, no_page, may_program, may_erase}
use Rattle.onfi_cycles.specs.Cycles.{Due, Moves, Resets, Programs, Erases, Refuses}
use Rattle.file_die.specs.declared.die.SyncWhen.{SyncWhen}
use Rattle.file_die.specs.declared.die.SyncWhen.TheVariants.{Always}
use Rattle.file_die.specs.Store.{Held, AreImages, LastsOf, Puts, page_in}
use Rattle.file_die.specs.Die.{Leaves, IfDue, ProgramsIn, ErasesInStore}
use Rattle.file_die.specs.DieLaws.{AddsAlone, DueSpares, AllSpare, GoesAdding, Lands, LandsLaw, LastsSince, StoreCycle, Wipes, WipesLaw, CopiesLaw, AddingGoesLaw, AlwaysLaw, ImagesLaw, KeepsLaw, SinceSyncLaw}
use Rattle.file_die.proofs.AskLemmas.{of_three}
use Rattle.file_die.proofs.StoreLemmas.{erased_in}

-- a change that is due, or nothing
by_due : (b : Bool) (P Q R : Type 0) → (b ≡ true → P → R) → (b ≡ false → Q → R) → IfDue b P Q → R
by_due true P Q R due other h = due refl h
by_due false P Q R due other h = other refl h

pub lands : LandsLaw
lands sync_when s t flash row page done w lt takes = by_due (may_program flash row) (ProgramsIn s row page sync_when done t) (t ≡ s) (Lands s flash row page done t)
    (λ may p. record {
      others = p.puts.others;
      landed = λ d m. ap (λ (image : Image). page_in image row) (p.puts.put d) ∙ get_or-set_same s.pages row page no_page (subst (λ n. row < n) (sym w.pages_whole.rows) lt);
      failed = p.puts.torn;
      refused = λ not. absurd (both_ways (may_program flash row) not may);
    })
    (λ may same. record {
      others = λ r ne. ap (λ (h : Held). page_in h.pages r) same;
      landed = λ d m. absurd (both_ways (may_program flash row) may m);
      failed = λ d. inl (0, omega arith, sym (ap (λ (h : Held). page_in h.pages row) same));
      refused = λ not. same;
    }) takes.leaves

pub wipes : WipesLaw
wipes sync_when s t flash block done w lt takes = by_due (may_erase flash block) (ErasesInStore s block done t) (t ≡ s) (Wipes s flash block done t)
    (λ may e. record {
      others = e.clears.others;
      wiped = λ d m row is.
          let here : page_in t.pages row ≡ _ = ap (λ (image : Image). page_in image row) (e.clears.cleared d) ∙ erased_in s.geometry block row s.pages w.pages_whole.rows lt is in
          (here, ap (λ (image : Image). page_in image row) (e.after d) ∙ here);
      refused = λ not. absurd (both_ways (may_erase flash block) not may);
    })
    (λ may same. record {
      others = λ r ne. ap (λ (h : Held). page_in h.pages r) same;
      wiped = λ d m. absurd (both_ways (may_erase flash block) may m);
      refused = λ not. same;
    }) takes.leaves

pub copies : CopiesLaw
copies sync_when s t flash block done takes row other ne out = by_due (may_erase flash block) (ErasesInStore s block done t) (t ≡ s) (page_in t.durable other ≡ page_in s.pages other)
    (λ may e. elim e.before [
      | inl same ↦ absurd (ne (ap (λ (image : Image). page_in image row) same))
      | inr last ↦ last other out
    ])
    (λ may same. absurd (ne (ap (λ (h : Held). page_in h.pages row) same))) takes.leaves

-- all pages last, as they did
same_lasts : (s t : Held) → t ≡ s → s.durable ≡ s.pages → t.durable ≡ t.pages
same_lasts s t same e = ap (λ (h : Held). h.durable) same ∙ (e ∙ sym (ap (λ (h : Held). h.pages) same))

one_always : (s t : Held) (due : Due) (flash : Flash) (done : Bool) → Leaves due flash Always s done t → done ≡ true → s.durable ≡ s.pages → t.durable ≡ t.pages
one_always s t (Programs row page) flash done h d e = by_due (may_program flash row) (ProgramsIn s row page Always done t) (t ≡ s) (t.durable ≡ t.pages) (λ may p. p.synced refl d) (λ may same. same_lasts s t same e) h
one_always s t (Erases block) flash done h d e = by_due (may_erase flash block) (ErasesInStore s block done t) (t ≡ s) (t.durable ≡ t.pages) (λ may p. p.after d) (λ may same. same_lasts s t same e) h
one_always s t (Moves phase) flash done h d e = same_lasts s t h e
one_always s t Resets flash done h d e = same_lasts s t h e
one_always s t (Refuses fault) flash done h d e = same_lasts s t h e

pub always : AlwaysLaw
always s t [] run done e = same_lasts s t run e
always s t (cycle ∷ cycles) run done e = always run.0 t cycles run.2 done.1 (one_always s run.0 cycle.due cycle.flash cycle.done run.1.leaves done.0 e)

-- a row that a cycle leaves
record Kept (s t : Held) (row : ℕ) : Type 0 where
  stays : page_in t.pages row ≡ page_in s.pages row
  lasts : page_in s.durable row ≡ page_in s.pages row → page_in t.durable row ≡ page_in s.pages row

kept_same : (s t : Held) (row : ℕ) → t ≡ s → Kept s t row
kept_same s t row same = record { stays = ap (λ (h : Held). page_in h.pages row) same; lasts = λ e. ap (λ (h : Held). page_in h.durable row) same ∙ e }

one_keeps : (sync_when : SyncWhen) (s t : Held) (due : Due) (flash : Flash) (done : Bool) (row : ℕ) → Leaves due flash sync_when s done t → DueSpares s.geometry row due → Kept s t row
one_keeps sync_when s t (Programs r page) flash done row h n = by_due (may_program flash r) (ProgramsIn s r page sync_when done t) (t ≡ s) (Kept s t row)
    (λ may p. record { stays = p.puts.others row n; lasts = λ e. (p.puts.lasts row).kept e (p.puts.others row n) }) (λ may same. kept_same s t row same) h
one_keeps sync_when s t (Erases block) flash done row h n = by_due (may_erase flash block) (ErasesInStore s block done t) (t ≡ s) (Kept s t row)
    (λ may p. record { stays = p.clears.others row n; lasts = λ e. (p.clears.lasts row).kept e (p.clears.others row n) }) (λ may same. kept_same s t row same) h
one_keeps sync_when s t (Moves phase) flash done row h n = kept_same s t row h
one_keeps sync_when s t Resets flash done row h n = kept_same s t row h
one_keeps sync_when s t (Refuses fault) flash done row h n = kept_same s t row h

pub keeps : KeepsLaw
keeps sync_when s t [] row run spare = let k = kept_same s t row run in (k.stays, k.lasts)
keeps sync_when s t (cycle ∷ cycles) row run spare =
    let one = one_keeps sync_when s run.0 cycle.due cycle.flash cycle.done row run.1.leaves spare.0 in
    let rest = keeps sync_when run.0 t cycles row run.2 (subst (λ g. AllSpare g row cycles) (sym run.1.geometry) spare.1) in
    (rest.0 ∙ one.stays, λ e. rest.1 (one.lasts e ∙ sym one.stays) ∙ one.stays)

-- ---- whole images

one_whole : (sync_when : SyncWhen) (s t : Held) (due : Due) (flash : Flash) (done : Bool) → Leaves due flash sync_when s done t → AreImages s → AreImages t
one_whole sync_when s t (Programs row page) flash done h w = by_due (may_program flash row) (ProgramsIn s row page sync_when done t) (t ≡ s) (AreImages t) (λ may p. p.puts.whole w) (λ may same. subst AreImages (sym same) w) h
one_whole sync_when s t (Erases block) flash done h w = by_due (may_erase flash block) (ErasesInStore s block done t) (t ≡ s) (AreImages t) (λ may p. p.clears.whole w) (λ may same. subst AreImages (sym same) w) h
one_whole sync_when s t (Moves phase) flash done h w = subst AreImages (sym h) w
one_whole sync_when s t Resets flash done h w = subst AreImages (sym h) w
one_whole sync_when s t (Refuses fault) flash done h w = subst AreImages (sym h) w

pub images : ImagesLaw
images sync_when s t [] run = (ap (λ (h : Held). h.geometry) run, λ w. subst AreImages (sym run) w)
images sync_when s t (cycle ∷ cycles) run =
    let rest = images sync_when run.0 t cycles run.2 in
    (rest.0 ∙ run.1.geometry, λ w. rest.1 (one_whole sync_when s run.0 cycle.due cycle.flash cycle.done run.1.leaves w))

pub adding_goes : AddingGoesLaw
adding_goes sync_when s t [] run = run
adding_goes sync_when s t (cycle ∷ cycles) run = (run.0, run.2, adding_goes sync_when run.0 t cycles run.3)

-- ---- since a sync

-- a page has a record or none
which : {A : Type 0} (o : Option A) → (o ≡ None) ⊎ ((x : A) × (o ≡ Some x))
which None = inl refl
which (Some x) = inr (x, refl)

-- what is found of a row is what it holds, or without a record where it had none
abbrev IsFound : Page → Page → Page → Type 0
IsFound stored now found = (found ≡ now) ⊎ ((record_of stored ≡ None) × (record_of found ≡ None))

-- what is found after a call that leaves the row, or changes it where it had no record
found_on : (stored lasted was is now : Page) → IsFound stored was lasted → LastsOf lasted was is now → (is ≡ was) ⊎ ((record_of stored ≡ None) × (record_of was ≡ None)) → IsFound stored is now
found_on stored lasted was is now found last (inl same) = elim found [
  | inl e ↦ inl (last.kept e same ∙ sym same)
  | inr none ↦ elim last.left [
    | inl c ↦ elim (of_three lasted was is now c) [
      | inl f ↦ inr (none.0, ap record_of (sym f) ∙ none.1)
      | inr o ↦ elim o [ inl f ↦ inl (sym f ∙ sym same) | inr f ↦ inl (sym f) ]
    ]
    | inr torn ↦ inr (none.0, torn)
  ]
]
found_on stored lasted was is now found last (inr none) = elim last.left [
  | inl c ↦ elim (of_three lasted was is now c) [
    | inl f ↦ elim found [
      | inl e ↦ inr (none.0, ap record_of (sym f ∙ e) ∙ none.1)
      | inr gone ↦ inr (none.0, ap record_of (sym f) ∙ gone.1)
    ]
    | inr o ↦ elim o [ inl f ↦ inr (none.0, ap record_of (sym f) ∙ none.1) | inr f ↦ inl (sym f) ]
  ]
  | inr torn ↦ inr (none.0, torn)
]

-- a row without a record had none
none_then : (stored : Image) (s : Held) (row : ℕ) → LastsSince stored s → record_of (page_in s.pages row) ≡ None → record_of (page_in stored row) ≡ None
none_then stored s row since none = elim (which (record_of (page_in stored row))) [
  | inl was ↦ was
  | inr some ↦ absurd (none-some some.0 (sym none ∙ (ap record_of (since.kept row some.0 some.1) ∙ some.1)))
]

-- a page was put where there was no record
since_put : (stored : Image) (s t : Held) (row : ℕ) (page : Page) (done : Bool) → LastsSince stored s → record_of (page_in s.pages row) ≡ None → Puts s row page done t → LastsSince stored t
since_put stored s t row page done since none puts =
    let then : record_of (page_in stored row) ≡ None = none_then stored s row since none in
    let moved : (r : ℕ) → (page_in t.pages r ≡ page_in s.pages r) ⊎ ((record_of (page_in stored r) ≡ None) × (record_of (page_in s.pages r) ≡ None)) = λ r. elim (cases_eq r row) [
      | inl same ↦ inr (subst (λ q. (record_of (page_in stored q) ≡ None) × (record_of (page_in s.pages q) ≡ None)) (sym same) (then, none))
      | inr apart ↦ inl (puts.others r apart)
    ] in
    record {
      kept = λ r x has. elim (moved r) [
        | inl same ↦ same ∙ since.kept r x has
        | inr gone ↦ absurd (none-some x (sym gone.0 ∙ has))
      ];
      found = λ r. found_on (page_in stored r) (page_in s.durable r) (page_in s.pages r) (page_in t.pages r) (page_in t.durable r) (since.found r) (puts.lasts r) (moved r);
    }

one_since : (sync_when : SyncWhen) (stored : Image) (s t : Held) (due : Due) (flash : Flash) (done : Bool) → Leaves due flash sync_when s done t → AddsAlone s flash due → LastsSince stored s → LastsSince stored t
one_since sync_when stored s t (Programs row page) flash done h adds since = by_due (may_program flash row) (ProgramsIn s row page sync_when done t) (t ≡ s) (LastsSince stored t)
    (λ may p. since_put stored s t row page done since (adds may) p.puts) (λ may same. subst (LastsSince stored) (sym same) since) h
one_since sync_when stored s t (Erases block) flash done h adds since = by_due (may_erase flash block) (ErasesInStore s block done t) (t ≡ s) (LastsSince stored t)
    (λ may p. absurd (both_ways (may_erase flash block) adds may)) (λ may same. subst (LastsSince stored) (sym same) since) h
one_since sync_when stored s t (Moves phase) flash done h adds since = subst (LastsSince stored) (sym h) since
one_since sync_when stored s t Resets flash done h adds since = subst (LastsSince stored) (sym h) since
one_since sync_when stored s t (Refuses fault) flash done h adds since = subst (LastsSince stored) (sym h) since

since_on : (sync_when : SyncWhen) (stored : Image) (s t : Held) (cycles : List StoreCycle) → GoesAdding sync_when s cycles t → LastsSince stored s → LastsSince stored t
since_on sync_when stored s t [] run since = subst (LastsSince stored) (sym run) since
since_on sync_when stored s t (cycle ∷ cycles) run since = since_on sync_when stored run.0 t cycles run.3 (one_since sync_when stored s run.0 cycle.due cycle.flash cycle.done run.2.leaves run.1 since)

pub since_sync : SinceSyncLaw
since_sync sync_when s t cycles run lasts = since_on sync_when s.pages s t cycles run (record { kept = λ row r has. refl; found = λ row. inl (ap (λ (image : Image). page_in image row) lasts) })
