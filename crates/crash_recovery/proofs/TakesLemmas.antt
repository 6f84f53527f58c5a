-- Pages that are taken one call after another.
use Rattle.std.proofs.Common.{◌≡◌, ◌⊎◌, inl, inr, ◌<◌, ◌≤◌, ◌-◌, ◌/◌, ◌%◌, ℕ, zero, suc, Bool, true, false, List, [], ◌∷◌, None, refl, sym, ap, ◌∙◌, subst, arith}
use Rattle.std.specs.List.{Contains}
use Rattle.std.proofs.lemmas.Bool.{cases_eq}
use Rattle.std.proofs.lemmas.List.{get_or-set_same}
use Rattle.std.proofs.lemmas.Nat.{div-mul-add, mod-mul-add}
use Rattle.page_layout.specs.declared.geometry.Geometry.{Geometry}
use Rattle.page_layout.specs.Geometry.{row_count}
use Rattle.page_layout.specs.Page.{Image, Page}
use Rattle.page_layout.specs.Flash.{no_page}
use Rattle.page_layout.specs.Sound.{record_of}
use Rattle.page_layout.specs.Change.{erased_page}
use Rattle.page_layout.proofs.StepLemmas.{erased_unsound}
use Rattle.onfi_cycles.specs.Cycles.{page_of}
use Rattle.file_die.specs.Store.{Held, AreImages, LastsOf, page_in, Puts, Clears, Syncs}
use Rattle.file_die.proofs.AskLemmas.{of_three}
use Rattle.file_die.proofs.StoreLemmas.{erased_in}
use Rattle.crash_recovery.specs.Torn.{row_in}
use Rattle.crash_recovery.specs.Taken.{HasTaken, IsInTail, LeavesErased, MayLast, Takes}
use Rattle.crash_recovery.proofs.Rows.{page_below, row_split}

pub takes_none : (taken : ℕ → Type 0) (s : Held) → Takes taken s s
takes_none taken s = record {
  geometry = refl;
  pages = λ row. inl refl;
  durable = λ row. inl refl;
  kept = λ row spared same. same;
  whole = λ w. w;
}

pub takes_same : (taken : ℕ → Type 0) (s t : Held) → t ≡ s → Takes taken s t
takes_same taken s t same = subst (Takes taken s) (sym same) (takes_none taken s)

pub takes_more : (a b : ℕ → Type 0) (s t : Held) → ((row : ℕ) → a row → b row) → Takes a s t → Takes b s t
takes_more a b s t more takes = record {
  geometry = takes.geometry;
  pages = λ row. elim (takes.pages row) [ inl same ↦ inl same | inr gone ↦ inr (more row gone.0, gone.1) ];
  durable = takes.durable;
  kept = λ row spared. takes.kept row (λ is. spared (more row is));
  whole = takes.whole;
}

-- a row that is not taken is as it was
pub spared_same : (taken : ℕ → Type 0) (s t : Held) (row : ℕ) → Takes taken s t → ¬ taken row → page_in t.pages row ≡ page_in s.pages row
spared_same taken s t row takes spared = elim (takes.pages row) [ inl same ↦ same | inr gone ↦ absurd (spared gone.0) ]

pub takes_then : (taken : ℕ → Type 0) (s m t : Held) → Takes taken s m → Takes taken m t → Takes taken s t
takes_then taken s m t one two = record {
  geometry = two.geometry ∙ one.geometry;
  pages = λ row. elim (two.pages row) [
    | inl same ↦ elim (one.pages row) [ inl first ↦ inl (same ∙ first) | inr gone ↦ inr (gone.0, ap record_of same ∙ gone.1) ]
    | inr gone ↦ inr gone
  ];
  durable = λ row. elim (two.durable row) [
    | inl same ↦ elim (one.durable row) [
      | inl first ↦ inl (same ∙ first)
      | inr other ↦ elim other [ inl first ↦ inr (inl (same ∙ first)) | inr gone ↦ inr (inr (ap record_of same ∙ gone)) ]
    ]
    | inr other ↦ elim other [
      | inl same ↦ elim (one.pages row) [ inl first ↦ inr (inl (same ∙ first)) | inr gone ↦ inr (inr (ap record_of same ∙ gone.1)) ]
      | inr gone ↦ inr (inr gone)
    ]
  ];
  kept = λ row spared lasted.
      let here : page_in m.pages row ≡ page_in s.pages row = spared_same taken s m row one spared in
      two.kept row spared (one.kept row spared lasted ∙ sym here) ∙ here;
  whole = λ w. two.whole (one.whole w);
}

-- what may last of a row after a call that left it as it was, or took it
may_last : (taken : ℕ → Type 0) (s t : Held) (row : ℕ) → LastsOf (page_in s.durable row) (page_in s.pages row) (page_in t.pages row) (page_in t.durable row)
    → (page_in t.pages row ≡ page_in s.pages row) ⊎ (taken row × (record_of (page_in t.pages row) ≡ None)) → MayLast (page_in s.durable row) (page_in s.pages row) (page_in t.durable row)
may_last taken s t row lasts is = elim lasts.left [
  | inl c ↦ elim (of_three (page_in s.durable row) (page_in s.pages row) (page_in t.pages row) (page_in t.durable row) c) [
    | inl e ↦ inl (sym e)
    | inr other ↦ elim other [
      | inl e ↦ inr (inl (sym e))
      | inr e ↦ elim is [ inl same ↦ inr (inl (sym e ∙ same)) | inr gone ↦ inr (inr (ap record_of (sym e) ∙ gone.1)) ]
    ]
  ]
  | inr none ↦ inr (inr none)
]

-- a sync, done or failed
pub takes_sync : (taken : ℕ → Type 0) (s t : Held) (done : Bool) → Syncs s done t → t.geometry ≡ s.geometry → Takes taken s t
takes_sync taken s t done syncs geometry = record {
  geometry = geometry;
  pages = λ row. inl (here row);
  durable = λ row. may_last taken s t row (syncs.lasts row) (inl (here row));
  kept = λ row spared lasted. (syncs.lasts row).kept lasted (here row);
  whole = syncs.whole;
}
  where
    here : (row : ℕ) → page_in t.pages row ≡ page_in s.pages row
    here row = ap (λ image. page_in image row) syncs.same

-- one of two
of_two : (a b now : Page) → Contains (a ∷ b ∷ []) now → (a ≡ now) ⊎ (b ≡ now)
of_two a b now (zero, lt, e) = inl e
of_two a b now (suc zero, lt, e) = inr e
of_two a b now (suc (suc k), lt, e) = absurd (omega arith)

-- what is there after a put of an erased page, done or failed
put_here : (s t : Held) (row : ℕ) (done : Bool) → AreImages s → row < row_count s.geometry → Puts s row (erased_page s.geometry) done t → (page_in t.pages row ≡ page_in s.pages row) ⊎ (record_of (page_in t.pages row) ≡ None)
put_here s t row true w within puts =
    inr (ap record_of (ap (λ image. page_in image row) (puts.put refl) ∙ get_or-set_same s.pages row (erased_page s.geometry) no_page (subst (λ n. row < n) (sym w.pages_whole.rows) within)) ∙ erased_unsound s.geometry)
put_here s t row false w within puts = elim (puts.torn refl) [
  | inl c ↦ elim (of_two (page_in s.pages row) (erased_page s.geometry) (page_in t.pages row) c) [
    | inl e ↦ inl (sym e)
    | inr e ↦ inr (ap record_of (sym e) ∙ erased_unsound s.geometry)
  ]
  | inr none ↦ inr none
]

pub takes_put : (taken : ℕ → Type 0) (s t : Held) (row : ℕ) (done : Bool) → AreImages s → row < row_count s.geometry → taken row → Puts s row (erased_page s.geometry) done t → t.geometry ≡ s.geometry → Takes taken s t
takes_put taken s t row done w within is puts geometry = record {
  geometry = geometry;
  pages = each;
  durable = λ r. may_last taken s t r (puts.lasts r) (each r);
  kept = λ r spared lasted. (puts.lasts r).kept lasted (puts.others r (λ same. spared (subst taken (sym same) is)));
  whole = puts.whole;
}
  where
    each : (r : ℕ) → (page_in t.pages r ≡ page_in s.pages r) ⊎ (taken r × (record_of (page_in t.pages r) ≡ None))
    each r = elim (cases_eq r row) [
      | inl same ↦ subst (λ q. (page_in t.pages q ≡ page_in s.pages q) ⊎ (taken q × (record_of (page_in t.pages q) ≡ None))) (sym same) (elim (put_here s t row done w within puts) [
        | inl stays ↦ inl stays
        | inr gone ↦ inr (is, gone)
      ])
      | inr apart ↦ inl (puts.others r apart)
    ]

-- ---- a block, from its last page down

-- the pages of the block from the n-th on are erased
pub record IsErasedFrom (g : Geometry) (image : Image) (block n : ℕ) : Type 0 where
  pub erased : (k : ℕ) → n ≤ k → k < g.pages → page_in image (row_in g block k) ≡ erased_page g

pub erased_none : (g : Geometry) (image : Image) (block : ℕ) → IsErasedFrom g image block g.pages
erased_none g image block = record { erased = λ k le lt. absurd (omega arith) }

-- so its tail is
pub tail_erased : (g : Geometry) (t : Held) (block from n : ℕ) → t.geometry ≡ g → n ≤ from → IsErasedFrom g t.pages block n → LeavesErased (IsInTail g block from) t
tail_erased g t block from n same le was = record {
  erased = λ row within is.
      ap (λ r. page_in t.pages r) (sym (row_split g row)) ∙ (ap (λ b. page_in t.pages (row_in g b (row % g.pages))) is.0 ∙ (was.erased (row % g.pages) (omega (arith, le, is.1)) (page_below g row) ∙ ap erased_page (sym same)));
}

-- the row of a page in the tail is of it
pub in_tail : (g : Geometry) (block from k : ℕ) → k < g.pages → from ≤ k → IsInTail g block from (row_in g block k)
in_tail g block from k within le = (div-mul-add block g.pages k within, subst (λ n. from ≤ n) (sym (mod-mul-add block g.pages k within)) le)

-- ---- a block that is cleared

pub takes_clear : (s t : Held) (block : ℕ) (done : Bool) → AreImages s → block < s.geometry.blocks → Clears s block done t → t.geometry ≡ s.geometry → Takes (λ row. row / s.geometry.pages ≡ block) s t
takes_clear s t block done w lt clears geometry = record {
  geometry = geometry;
  pages = each;
  durable = λ r. may_last (λ row. row / s.geometry.pages ≡ block) s t r (clears.lasts r) (each r);
  kept = λ r spared lasted. (clears.lasts r).kept lasted (clears.others r spared);
  whole = clears.whole;
}
  where
    inside : (r : ℕ) (d : Bool) → Clears s block d t → r / s.geometry.pages ≡ block → (page_in t.pages r ≡ page_in s.pages r) ⊎ (record_of (page_in t.pages r) ≡ None)
    inside r true c is = inr (ap record_of (ap (λ image. page_in image r) (c.cleared refl) ∙ erased_in s.geometry block r s.pages w.pages_whole.rows lt is) ∙ erased_unsound s.geometry)
    inside r false c is = elim (c.torn refl r is) [
      | inl some ↦ elim (of_two (page_in s.pages r) (erased_page s.geometry) (page_in t.pages r) some) [
        | inl e ↦ inl (sym e)
        | inr e ↦ inr (ap record_of (sym e) ∙ erased_unsound s.geometry)
      ]
      | inr none ↦ inr none
    ]

    each : (r : ℕ) → (page_in t.pages r ≡ page_in s.pages r) ⊎ ((r / s.geometry.pages ≡ block) × (record_of (page_in t.pages r) ≡ None))
    each r = elim (cases_eq (r / s.geometry.pages) block) [
      | inl is ↦ elim (inside r done clears is) [ inl stays ↦ inl stays | inr gone ↦ inr (is, gone) ]
      | inr apart ↦ inl (clears.others r apart)
    ]

pub cleared_erased : (s t : Held) (block : ℕ) → AreImages s → block < s.geometry.blocks → Clears s block true t → t.geometry ≡ s.geometry → LeavesErased (λ row. row / s.geometry.pages ≡ block) t
cleared_erased s t block w lt clears geometry = record {
  erased = λ row within is. ap (λ image. page_in image row) (clears.cleared refl) ∙ (erased_in s.geometry block row s.pages w.pages_whole.rows lt is ∙ ap erased_page (sym geometry));
}

-- ---- blocks, one after another

-- rows that were left erased stay so
pub erased_stays : (a taken : ℕ → Type 0) (s t : Held) → ((row : ℕ) → a row → ¬ taken row) → Takes taken s t → LeavesErased a s → LeavesErased a t
erased_stays a taken s t apart takes left = record {
  erased = λ row within is. spared_same taken s t row takes (apart row is) ∙ (left.erased row (subst (λ g. row < row_count g) takes.geometry within) is ∙ ap erased_page (sym takes.geometry));
}

pub erased_either : (a b c : ℕ → Type 0) (t : Held) → ((row : ℕ) → row < row_count t.geometry → c row → a row ⊎ b row) → LeavesErased a t → LeavesErased b t → LeavesErased c t
erased_either a b c t either first second = record {
  erased = λ row within is. elim (either row within is) [ inl here ↦ first.erased row within here | inr there ↦ second.erased row within there ];
}

pub has_taken : (taken : ℕ → Type 0) (s m t : Held) → Takes taken s m → LeavesErased taken m → Syncs m true t → t.geometry ≡ m.geometry → HasTaken taken s t
has_taken taken s m t takes left syncs geometry =
    let all : Takes taken s t = takes_then taken s m t takes (takes_sync taken m t true syncs geometry) in
    record {
      takes = all;
      left = record { erased = λ row within is. ap (λ image. page_in image row) syncs.same ∙ (left.erased row (subst (λ g. row < row_count g) geometry within) is ∙ ap erased_page (sym geometry)) };
      others = λ row spared. spared_same taken s t row all spared;
      lasts = syncs.synced refl ∙ sym syncs.same;
    }

-- ---- the same for a geometry that the store has

pub clear_takes : (g : Geometry) (s t : Held) (block : ℕ) (done : Bool) → s.geometry ≡ g → AreImages s → block < g.blocks → Clears s block done t → t.geometry ≡ s.geometry → Takes (λ row. row / g.pages ≡ block) s t
clear_takes g s t block done same w lt clears geometry =
    subst (λ (x : Geometry). Takes (λ row. row / x.pages ≡ block) s t) same (takes_clear s t block done w (subst (λ (x : Geometry). block < x.blocks) (sym same) lt) clears geometry)

pub clear_erases : (g : Geometry) (s t : Held) (block : ℕ) (done : Bool) → s.geometry ≡ g → AreImages s → block < g.blocks → Clears s block done t → t.geometry ≡ s.geometry → done ≡ true → LeavesErased (λ row. row / g.pages ≡ block) t
clear_erases g s t block done same w lt clears geometry is =
    subst (λ (x : Geometry). LeavesErased (λ row. row / x.pages ≡ block) t) same (cleared_erased s t block w (subst (λ (x : Geometry). block < x.blocks) (sym same) lt) (subst (λ d. Clears s block d t) is clears) geometry)

-- the page that is put, by its bytes
erased_bytes : (g : Geometry) (s t : Held) (row : ℕ) (bytes : List ℕ) (done : Bool) → s.geometry ≡ g → page_of g bytes ≡ erased_page g → Puts s row (page_of s.geometry bytes) done t → Puts s row (erased_page s.geometry) done t
erased_bytes g s t row bytes done same is puts = subst (λ p. Puts s row p done t) (subst (λ (x : Geometry). page_of x bytes ≡ erased_page x) (sym same) is) puts

pub put_takes : (g : Geometry) (s t : Held) (block k from row : ℕ) (bytes : List ℕ) (done : Bool) → s.geometry ≡ g → AreImages s → row < row_count g → k < g.pages → from ≤ k → row ≡ row_in g block k
    → page_of g bytes ≡ erased_page g → Puts s row (page_of s.geometry bytes) done t → t.geometry ≡ s.geometry → Takes (IsInTail g block from) s t
put_takes g s t block k from row bytes done same w within inside le is blank puts geometry =
    takes_put (IsInTail g block from) s t row done w (subst (λ x. row < row_count x) (sym same) within) (subst (IsInTail g block from) (sym is) (in_tail g block from k inside le)) (erased_bytes g s t row bytes done same blank puts) geometry

pub put_erases : (g : Geometry) (s t : Held) (block n row : ℕ) (bytes : List ℕ) → s.geometry ≡ g → AreImages s → row < row_count g → 0 < n → row ≡ row_in g block (n - 1) → page_of g bytes ≡ erased_page g
    → Puts s row (page_of s.geometry bytes) true t → IsErasedFrom g s.pages block n → IsErasedFrom g t.pages block (n - 1)
put_erases g s t block n row bytes same w within some is blank puts was = record {
  erased = λ k le lt. elim (cases_eq k (n - 1)) [
    | inl last ↦
        ap (λ j. page_in t.pages (row_in g block j)) last
        ∙ (ap (page_in t.pages) (sym is)
        ∙ (ap (λ image. page_in image row) (puts.put refl)
        ∙ (get_or-set_same s.pages row (page_of s.geometry bytes) no_page (subst (λ m. row < m) (sym (w.pages_whole.rows ∙ ap row_count same)) within)
        ∙ (ap (λ x. page_of x bytes) same ∙ blank))))
    | inr apart ↦ puts.others (row_in g block k) (λ other. apart (omega (arith, other, is))) ∙ was.erased k (omega (arith, le, apart)) lt
  ];
}
