-- Images that a stop in one operation may leave, page by page.
use Rattle.std.proofs.Common.{◌≡◌, ◌≢◌, ◌⊎◌, inl, inr, ℕ, ◌/◌, ◌<◌, ◌≤◌, Bool, List, length, refl, sym, ◌∙◌, ap, subst, get_or, Some, None}
use Rattle.std.specs.Prelude.{slice_get, slice_set}
use Rattle.std.proofs.Math.ListN.{set}
use Rattle.std.proofs.lemmas.Bool.{cases_eq, cases_lt}
use Rattle.std.proofs.lemmas.List.{ext_get_or, length-set}
use Rattle.std.proofs.lemmas.Option.{slice_get-get_or, slice_get_past, get_or_from_slice_get}
use Rattle.page_layout.specs.Page.{Page, Image}
use Rattle.page_layout.specs.Sound.{record_of}
use Rattle.page_layout.specs.Change.{FailsAt, LosesIn, IsUnsoundAt}
use Rattle.page_layout.specs.Flash.{Program, Erase, no_page, with_block}
use Rattle.page_layout.specs.Recording.{image_after}
use Rattle.page_layout.proofs.ArrayLemmas.{slice_get-set_other, slice_get-set_same, mark-page, unsound_at}
use Rattle.promises.specs.Stop.{IsTornIn, StoppedProgramLaw, StoppedEraseLaw}

-- two images with the same pages
same_image : (a b : Image) → length a ≡ length b → ((row : ℕ) → slice_get a row ≡ slice_get b row) → a ≡ b
same_image a b size same = ext_get_or no_page a b size (λ row l. get_or_from_slice_get a row (get_or b row no_page) no_page (same row ∙ slice_get-get_or b row no_page (subst (λ n. row < n) size l)))

-- nothing was done
pub as_it_was : (these : ℕ → Type 0) (image left : Image) → left ≡ image → IsTornIn these image left
as_it_was these image left e = record { size = ap length e; each = λ row. inl (ap (λ (i : Image). slice_get i row) e) }

-- ---- a program

set_torn : (image left : Image) (row : ℕ) (p : Page) → left ≡ slice_set image row p → record_of p ≡ None → (r : ℕ) → (r ≡ row) ⊎ (r ≡ row → ⊥)
    → (slice_get left r ≡ slice_get image r) ⊎ ((r ≡ row) × IsUnsoundAt left r)
set_torn image left row p is unsound r (inr ne) = inl (ap (λ (i : Image). slice_get i r) is ∙ slice_get-set_other image row r p ne)
set_torn image left row p is unsound r (inl e) = elim (cases_lt r (length image)) [
  | inl within ↦ inr (e, unsound_at left r p (ap (λ (i : Image). slice_get i r) is ∙ (ap (λ k. slice_get (slice_set image k p) r) (sym e) ∙ slice_get-set_same image r p within)) unsound)
  | inr past ↦ inl (ap (λ (i : Image). slice_get i r) is ∙ (slice_get_past (slice_set image row p) r (subst (λ n. n ≤ r) (sym (length-set image row p)) past) ∙ sym (slice_get_past image r past)))
]

pub fails_torn : (image left : Image) (row : ℕ) → FailsAt row image left → IsTornIn (λ r. r ≡ row) image left
fails_torn image left row (inl e) = as_it_was (λ r. r ≡ row) image left e
fails_torn image left row (inr (p, is, unsound)) = record {
  size = ap length is ∙ length-set image row p;
  each = λ r. set_torn image left row p is unsound r (cases_eq r row);
}

others_same : (image left : Image) (row : ℕ) → IsTornIn (λ r. r ≡ row) image left → (r : ℕ) → r ≢ row → slice_get left r ≡ slice_get image r
others_same image left row t r ne = elim (t.each r) [
  | inl same ↦ same
  | inr torn ↦ absurd (ne torn.0)
]

one_set : (image left : Image) (row : ℕ) → IsTornIn (λ r. r ≡ row) image left → row < length image → left ≡ slice_set image row (get_or left row no_page)
one_set image left row t within =
    let p : Page = get_or left row no_page in
    same_image left (slice_set image row p) (t.size ∙ sym (length-set image row p)) (λ r. elim (cases_eq r row) [
      | inl e ↦ ap (λ k. slice_get left k) e
          ∙ (slice_get-get_or left row no_page (subst (λ n. row < n) (sym t.size) within)
          ∙ (sym (slice_get-set_same image row p within) ∙ ap (λ k. slice_get (slice_set image row p) k) (sym e)))
      | inr ne ↦ others_same image left row t r ne ∙ sym (slice_get-set_other image row r p ne)
    ])

torn_fails : (image left : Image) (row : ℕ) → IsTornIn (λ r. r ≡ row) image left → FailsAt row image left
torn_fails image left row t = elim (t.each row) [
  | inl same ↦ inl (same_image left image t.size (λ r. elim (cases_eq r row) [
    | inl e ↦ ap (λ k. slice_get left k) e ∙ (same ∙ ap (λ k. slice_get image k) (sym e))
    | inr ne ↦ others_same image left row t r ne
  ]))
  | inr torn ↦ elim (cases_lt row (length image)) [
    | inl within ↦
        let p : Page = get_or left row no_page in
        let at : slice_get left row ≡ Some p = slice_get-get_or left row no_page (subst (λ n. row < n) (sym t.size) within) in
        inr (p, one_set image left row t within, sym (mark-page left row p at) ∙ torn.1)
    | inr past ↦ inl (same_image left image t.size (λ r. elim (cases_eq r row) [
      | inl e ↦ ap (λ k. slice_get left k) e
          ∙ (slice_get_past left row (subst (λ n. n ≤ row) (sym t.size) past) ∙ (sym (slice_get_past image row past) ∙ ap (λ k. slice_get image k) (sym e)))
      | inr ne ↦ others_same image left row t r ne
    ]))
  ]
]

after_program : (pages : ℕ) (image : Image) (row : ℕ) (p written : Page) (passed : Bool) → image_after pages image (Program row p passed written) ≡ slice_set image row written
unfolding image_after
after_program pages image row p written passed = refl

pub stopped_program : StoppedProgramLaw
stopped_program g image left row p written passed = (
  λ may. (
    may.whole,
    elim may.by [
      | inl torn ↦ inr (fails_torn image left row torn)
      | inr done ↦ inl (done ∙ after_program g.pages image row p written passed)
    ],
  ),
  λ h. record {
    whole = h.0;
    by = elim h.1 [
      | inl done ↦ inr (done ∙ sym (after_program g.pages image row p written passed))
      | inr torn ↦ inl (torn_fails image left row torn)
    ];
  },
)

-- ---- an erase

loses_torn : (pages block : ℕ) (image left : Image) → LosesIn pages block image left → IsTornIn (λ r. r / pages ≡ block) image left
loses_torn pages block image left lost = record {
  size = lost.length_same;
  each = λ row. elim (cases_eq (row / pages) block) [
    | inl e ↦ elim (lost.inside row e) [
      | inl same ↦ inl same
      | inr unsound ↦ inr (e, unsound)
    ]
    | inr ne ↦ inl (lost.others row ne)
  ];
}

torn_loses : (pages block : ℕ) (image left : Image) → IsTornIn (λ r. r / pages ≡ block) image left → LosesIn pages block image left
torn_loses pages block image left t = record {
  length_same = t.size;
  others = λ row ne. elim (t.each row) [
    | inl same ↦ same
    | inr torn ↦ absurd (ne torn.0)
  ];
  inside = λ row e. elim (t.each row) [
    | inl same ↦ inl same
    | inr torn ↦ inr torn.1
  ];
}

after_erase : (pages : ℕ) (image : Image) (block : ℕ) (written : List Page) (passed : Bool) → image_after pages image (Erase block passed written) ≡ with_block pages block written image
unfolding image_after
after_erase pages image block written passed = refl

pub stopped_erase : StoppedEraseLaw
stopped_erase g image left block passed written = (
  λ may. (
    may.whole,
    elim may.by [
      | inl torn ↦ inr (loses_torn g.pages block image left torn)
      | inr done ↦ inl (done ∙ after_erase g.pages image block written passed)
    ],
  ),
  λ h. record {
    whole = h.0;
    by = elim h.1 [
      | inl done ↦ inr (done ∙ sym (after_erase g.pages image block written passed))
      | inr torn ↦ inl (torn_loses g.pages block image left torn)
    ];
  },
)
