-- What a program and an erase that were refused leave of the pages of a store: what a stop in them may leave.
use Rattle.std.proofs.Common.{◌≡◌, ◌⊎◌, inl, inr, ℕ, suc, zero, Bool, true, false, [], ◌∷◌, length, replicate, None, refl, sym, ap, subst, ◌∙◌, arith}
use Rattle.std.specs.List.{Contains}
use Rattle.std.specs.Prelude.{slice_set}
use Rattle.std.proofs.lemmas.Bool.{cases_eq}
use Rattle.std.proofs.lemmas.List.{ext_get_or, get_or-set_other, get_or-set_same, length-set, set-get_or}
use Rattle.page_layout.specs.Geometry.{row_count}
use Rattle.page_layout.specs.Page.{Image, Page}
use Rattle.page_layout.specs.Sound.{record_of}
use Rattle.page_layout.specs.Change.{erased_page}
use Rattle.page_layout.specs.Flash.{Erase, Flash, Program, may_erase, may_program, no_page, with_block}
use Rattle.page_layout.specs.Recording.{image_after}
use Rattle.page_layout.proofs.StepLemmas.{erased_unsound}
use Rattle.onfi_cycles.specs.Cycles.{Erases, Programs}
use Rattle.promises.specs.Stop.{LeftBy}
use Rattle.file_die.specs.declared.die.SyncWhen.{SyncWhen}
use Rattle.file_die.specs.Die.{ErasesInStore, IfDue, Leaves, ProgramsIn}
use Rattle.file_die.specs.DieLaws.{LastsSince}
use Rattle.file_die.specs.Store.{AreImages, Clears, Held, LastsOf, MayBeLeft, Puts, page_in}
use Rattle.file_die.proofs.AskLemmas.{of_three}
use Rattle.image_laws.specs.Power.{LosesSince}
use Rattle.image_laws.proofs.PowerLemmas.{none_lost}
use Rattle.disk_server.proofs.PowerLemmas.{same_at, unsound_in}
use Rattle.disk_laws.specs.Lost.{LostBy}

one_of_two : (a b now : Page) → Contains (a ∷ b ∷ []) now → (a ≡ now) ⊎ (b ≡ now)
one_of_two a b now (zero, lt, e) = inl e
one_of_two a b now (suc zero, lt, e) = inr e
one_of_two a b now (suc (suc k), lt, e) = absurd (omega arith)

module _ (s t : Held) (sized : t.geometry ≡ s.geometry) (was : AreImages s) where
  -- two images of the die have as many rows
  long : AreImages t → length t.pages ≡ length s.pages
  long now = now.pages_whole.rows ∙ (ap row_count sized ∙ sym was.pages_whole.rows)

  -- a page was put, or not, or in part
  put_left : (row : ℕ) (page : Page) (done : Bool) → Puts s row page done t → LeftBy s.geometry.pages s.pages (Program row page true page ∷ []) t.pages × AreImages t
  unfolding image_after
  put_left row page true puts = (inr (puts.put refl), puts.whole was)
  put_left row page false puts =
      let now : AreImages t = puts.whole was in
      let only : t.pages ≡ slice_set s.pages row (page_in t.pages row) =
      ext_get_or no_page t.pages (slice_set s.pages row (page_in t.pages row)) (long now ∙ sym (length-set s.pages row (page_in t.pages row)))
      (λ r within. elim (cases_eq r row) [
        | inl here ↦
            ap (λ k. page_in t.pages k) here
            ∙ sym (ap (λ k. page_in (slice_set s.pages row (page_in t.pages row)) k) here ∙ get_or-set_same s.pages row (page_in t.pages row) no_page (omega (arith, within, long now, here)))
        | inr apart ↦ puts.others r apart ∙ sym (get_or-set_other s.pages row r (page_in t.pages row) no_page apart)
      ]) in (
        elim (puts.torn refl) [
          | inl one ↦ elim (one_of_two (page_in s.pages row) page (page_in t.pages row) one) [
            | inl same ↦ inl (inl (only ∙ (ap (λ p. slice_set s.pages row p) (sym same) ∙ set-get_or s.pages row no_page)))
            | inr put ↦ inr (only ∙ ap (λ p. slice_set s.pages row p) (sym put))
          ]
          | inr none ↦ inl (inr (page_in t.pages row, only, none))
        ],
        now,
      )

  -- a block was cleared, or not, or in part
  clear_left : (block : ℕ) (done : Bool) → Clears s block done t
      → LeftBy s.geometry.pages s.pages (Erase block true (replicate s.geometry.pages (erased_page s.geometry)) ∷ []) t.pages × AreImages t
  unfolding image_after
  clear_left block true clears = (inr (clears.cleared refl), clears.whole was)
  clear_left block false clears =
      let now : AreImages t = clears.whole was in (
        inl (record {
          length_same = long now;
          others = λ row apart. same_at t.pages s.pages row (long now) (clears.others row apart);
          inside = λ row within. elim (clears.torn refl row within) [
            | inl one ↦ elim (one_of_two (page_in s.pages row) (erased_page s.geometry) (page_in t.pages row) one) [
              | inl same ↦ inl (same_at t.pages s.pages row (long now) (sym same))
              | inr erased ↦ inr (unsound_in t.pages row (ap record_of (sym erased) ∙ erased_unsound s.geometry))
            ]
            | inr none ↦ inr (unsound_in t.pages row none)
          ];
        }),
        now,
      )

  -- nothing was changed
  pub program_spared : (row : ℕ) (page : Page) → t ≡ s → LeftBy s.geometry.pages s.pages (Program row page true page ∷ []) t.pages × AreImages t
  program_spared row page same = (inl (inl (ap (λ (h : Held). h.pages) same)), subst AreImages (sym same) was)

  pub erase_spared : (block : ℕ) → t ≡ s → LeftBy s.geometry.pages s.pages (Erase block true (replicate s.geometry.pages (erased_page s.geometry)) ∷ []) t.pages × AreImages t
  erase_spared block same = (
    inl (record {
      length_same = ap (λ (h : Held). length h.pages) same;
      others = λ row apart. same_at t.pages s.pages row (ap (λ (h : Held). length h.pages) same) (ap (λ (h : Held). page_in h.pages row) same);
      inside = λ row within. inl (same_at t.pages s.pages row (ap (λ (h : Held). length h.pages) same) (ap (λ (h : Held). page_in h.pages row) same));
    }),
    subst AreImages (sym same) was,
  )

  -- by what a cycle left of the store
  pub program_left : (flash : Flash) (sync_when : SyncWhen) (row : ℕ) (page : Page) (done : Bool) → Leaves (Programs row page) flash sync_when s done t
      → LeftBy s.geometry.pages s.pages (Program row page true page ∷ []) t.pages × AreImages t
  program_left flash sync_when row page done leaves = by (may_program flash row) leaves
    where
      by : (b : Bool) → IfDue b (ProgramsIn s row page sync_when done t) (t ≡ s) → LeftBy s.geometry.pages s.pages (Program row page true page ∷ []) t.pages × AreImages t
      by true programs = put_left row page done programs.puts
      by false same = program_spared row page same

  pub erase_left : (flash : Flash) (sync_when : SyncWhen) (block : ℕ) (done : Bool) → Leaves (Erases block) flash sync_when s done t
      → LeftBy s.geometry.pages s.pages (Erase block true (replicate s.geometry.pages (erased_page s.geometry)) ∷ []) t.pages × AreImages t
  erase_left flash sync_when block done leaves = by (may_erase flash block) leaves
    where
      by : (b : Bool) → IfDue b (ErasesInStore s block done t) (t ≡ s) → LeftBy s.geometry.pages s.pages (Erase block true (replicate s.geometry.pages (erased_page s.geometry)) ∷ []) t.pages × AreImages t
      by true erases = clear_left block done erases.clears
      by false same = erase_spared block same

-- ---- what lasts behind an erase that was refused

module _ (stored : Image) (s t : Held) (sized : t.geometry ≡ s.geometry) (was : AreImages s) (since : LastsSince stored s) where
  -- what lasts of a row that the erase left, as it was, or without a record where it had none
  row_kept : (row : ℕ) → LastsOf (page_in s.durable row) (page_in s.pages row) (page_in t.pages row) (page_in t.durable row) → page_in t.pages row ≡ page_in s.pages row
      → (page_in t.durable row ≡ page_in s.pages row) ⊎ ((record_of (page_in stored row) ≡ None) × (record_of (page_in t.durable row) ≡ None))
  row_kept row lasts same = elim (since.found row) [
    | inl lasted ↦ inl (lasts.kept lasted same)
    | inr gone ↦ elim lasts.left [
      | inl one ↦ elim (of_three (page_in s.durable row) (page_in s.pages row) (page_in t.pages row) (page_in t.durable row) one) [
        | inl first ↦ inr (gone.0, ap record_of (sym first) ∙ gone.1)
        | inr rest ↦ elim rest [ inl second ↦ inl (sym second) | inr third ↦ inl (sym third ∙ same) ]
      ]
      | inr none ↦ inr (gone.0, none)
    ]
  ]

  -- of a row of the block
  row_torn : (row : ℕ) → LastsOf (page_in s.durable row) (page_in s.pages row) (page_in t.pages row) (page_in t.durable row) → MayBeLeft (page_in s.pages row ∷ erased_page s.geometry ∷ []) (page_in t.pages row)
      → (page_in t.durable row ≡ page_in s.pages row) ⊎ (record_of (page_in t.durable row) ≡ None)
  row_torn row lasts torn = elim lasts.left [
    | inl one ↦ elim (of_three (page_in s.durable row) (page_in s.pages row) (page_in t.pages row) (page_in t.durable row) one) [
      | inl first ↦ elim (since.found row) [ inl lasted ↦ inl (sym first ∙ lasted) | inr gone ↦ inr (ap record_of (sym first) ∙ gone.1) ]
      | inr rest ↦ elim rest [
        | inl second ↦ inl (sym second)
        | inr third ↦ elim torn [
          | inl two ↦ elim (one_of_two (page_in s.pages row) (erased_page s.geometry) (page_in t.pages row) two) [
            | inl same ↦ inl (sym third ∙ sym same)
            | inr erased ↦ inr (ap record_of (sym third) ∙ (ap record_of (sym erased) ∙ erased_unsound s.geometry))
          ]
          | inr none ↦ inr (ap record_of (sym third) ∙ none)
        ]
      ]
    ]
    | inr none ↦ inr none
  ]

  durable_long : AreImages t → length t.durable ≡ length s.pages
  durable_long now = now.durable_whole.rows ∙ (ap row_count sized ∙ sym was.pages_whole.rows)

  erased_lost : (block : ℕ) (done : Bool) → ErasesInStore s block done t → LostBy s.geometry.pages stored s.pages (Erase block true (replicate s.geometry.pages (erased_page s.geometry)) ∷ []) t.durable
  unfolding image_after
  erased_lost block true erases =
      let after : Image = with_block s.geometry.pages block (replicate s.geometry.pages (erased_page s.geometry)) s.pages in
      inr (inr (subst (LosesSince after after) (sym (erases.after refl ∙ erases.clears.cleared refl)) (none_lost after after)))
  erased_lost block false erases =
      let long : length t.durable ≡ length s.pages = durable_long (erases.clears.whole was) in
      elim erases.before [
        | inl same ↦ inl (record {
          size = long;
          rows = λ row. elim (row_kept row (erases.clears.lasts row) (ap (λ i. page_in i row) same)) [
            | inl kept ↦ inl (same_at t.durable s.pages row long kept)
            | inr gone ↦ inr (unsound_in stored row gone.0, unsound_in t.durable row gone.1)
          ];
        })
        | inr others ↦ inr (inl (record {
          length_same = long;
          others = λ row apart. same_at t.durable s.pages row long (others row apart);
          inside = λ row within. elim (row_torn row (erases.clears.lasts row) (erases.clears.torn refl row within)) [
            | inl kept ↦ inl (same_at t.durable s.pages row long kept)
            | inr gone ↦ inr (unsound_in t.durable row gone)
          ];
        }))
      ]

  pub erase_lost : (flash : Flash) (sync_when : SyncWhen) (block : ℕ) (done : Bool) → Leaves (Erases block) flash sync_when s done t → LosesSince stored s.pages s.durable
      → LostBy s.geometry.pages stored s.pages (Erase block true (replicate s.geometry.pages (erased_page s.geometry)) ∷ []) t.durable
  erase_lost flash sync_when block done leaves loses = by (may_erase flash block) leaves
    where
      by : (b : Bool) → IfDue b (ErasesInStore s block done t) (t ≡ s) → LostBy s.geometry.pages stored s.pages (Erase block true (replicate s.geometry.pages (erased_page s.geometry)) ∷ []) t.durable
      by true erases = erased_lost block done erases
      by false same = inl (subst (λ (h : Held). LosesSince stored s.pages h.durable) (sym same) loses)
