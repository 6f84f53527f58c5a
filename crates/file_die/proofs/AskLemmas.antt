-- What the calls of a store for one program or erase come to together.
use Rattle.std.proofs.Common.{◌≡◌, ◌⊎◌, inl, inr, ℕ, zero, suc, ◌<◌, ◌≤◌, Bool, true, false, [], ◌∷◌, refl, sym, ◌∙◌, ap, subst, arith}
use Rattle.std.specs.Prelude.{Result, Ok, Err, OnOk, OnErr, is_ok, is_err}
use Rattle.std.specs.List.{Contains}
use Rattle.std.proofs.lemmas.List.{get_or-set_same}
use Rattle.page_layout.specs.declared.geometry.Geometry.{Geometry}
use Rattle.page_layout.specs.Geometry.{row_count}
use Rattle.page_layout.specs.Page.{Page, Image}
use Rattle.page_layout.specs.Flash.{no_page}
use Rattle.page_layout.specs.Counter.{HasRisen}
use Rattle.onfi_cycles.specs.declared.nand.BusFault.{BusFault}
use Rattle.onfi_cycles.specs.declared.nand.BusFault.TheVariants.{Device}
use Rattle.file_die.specs.declared.die.SyncWhen.{SyncWhen}
use Rattle.file_die.specs.declared.die.SyncWhen.TheVariants as sync
use Rattle.file_die.specs.Store.{Held, AreImages, page_in, MayBeLeft, LastsOf, Lasts, Puts, Clears, Syncs}
use Rattle.file_die.specs.Die.{Asks, ProgramsIn, ErasesInStore}
use Rattle.file_die.proofs.StoreLemmas.{erased_in}

-- ---- what is counted

pub asks_done : {S : Type 0} → (held : S → Held) (honest : S → Bool) (failed : S → ℕ) (old new : S) → (held new).geometry ≡ (held old).geometry → honest new ≡ honest old → failed old ≤ failed new → failed new ≡ failed old → Asks held honest failed old new (Ok tt)
asks_done held honest failed old new geometry as_honest rising settled = record { geometry = geometry; as_honest = as_honest; rising = rising; settled = settled; rose = tt; device = tt }

pub asks_failed : {S : Type 0} → (held : S → Held) (honest : S → Bool) (failed : S → ℕ) (old new : S) → (held new).geometry ≡ (held old).geometry → honest new ≡ honest old → failed old ≤ failed new → HasRisen (failed old) (failed new) → Asks held honest failed old new (Err Device)
asks_failed held honest failed old new geometry as_honest rising rose = record { geometry = geometry; as_honest = as_honest; rising = rising; settled = tt; rose = rose; device = refl }

-- a call after one that was done
pub asks_then : {S : Type 0} → (held : S → Held) (honest : S → Bool) (failed : S → ℕ) (old mid new : S) (result : Result (Unit {0}) BusFault) → (held mid).geometry ≡ (held old).geometry → honest mid ≡ honest old → failed mid ≡ failed old
    → Asks held honest failed mid new result → Asks held honest failed old new result
asks_then held honest failed old mid new result geometry as_honest same asks = record {
  geometry = asks.geometry ∙ geometry;
  as_honest = asks.as_honest ∙ as_honest;
  rising = subst (λ n. n ≤ failed new) same asks.rising;
  settled = subst (λ n. OnOk result (failed new ≡ n)) same asks.settled;
  rose = subst (λ n. OnErr result (HasRisen n (failed new))) same asks.rose;
  device = asks.device;
}

-- what a call says, by whether it failed
pub failed_by : {T E P : Type 0} (r : Result T E) (b : Bool) → b ≡ is_err r → b ≡ true → OnErr r P → P
failed_by (Ok x) b is e p = let no : ⊥ = cc in absurd no
failed_by (Err x) b is e p = p

pub done_by : {T E P : Type 0} (r : Result T E) (b : Bool) → b ≡ is_err r → b ≡ false → OnOk r P → P
done_by (Ok x) b is e p = p
done_by (Err x) b is e p = let no : ⊥ = cc in absurd no

pub not_done : {T E : Type 0} (r : Result T E) (b : Bool) → b ≡ is_err r → b ≡ true → is_ok r ≡ false
not_done (Ok x) b is e = let no : ⊥ = cc in absurd no
not_done (Err x) b is e = refl

pub was_done : {T E : Type 0} (r : Result T E) (b : Bool) → b ≡ is_err r → b ≡ false → is_ok r ≡ true
was_done (Ok x) b is e = refl
was_done (Err x) b is e = let no : ⊥ = cc in absurd no

-- ---- what is left of the pages

pub programs_failed : (s t : Held) (row : ℕ) (page : Page) (sync_when : SyncWhen) (done : Bool) → done ≡ false → Puts s row page done t → ProgramsIn s row page sync_when false t
programs_failed s t row page sync_when done e puts = record { puts = subst (λ d. Puts s row page d t) e puts; synced = λ a d. (let no : ⊥ = cc in absurd no) }

-- it is not synced
pub programs_put : (s t : Held) (row : ℕ) (page : Page) (sync_when : SyncWhen) (done : Bool) → done ≡ true → Puts s row page done t → sync_when ≡ sync.Erases → ProgramsIn s row page sync_when true t
programs_put s t row page sync_when done e puts is = record { puts = subst (λ d. Puts s row page d t) e puts; synced = λ a d. (let no : sync.Erases ≡ sync.Always = sym is ∙ a in let never : ⊥ = cc in absurd never) }

-- one of three
pub of_three : (a b c now : Page) → Contains (a ∷ b ∷ c ∷ []) now → (a ≡ now) ⊎ ((b ≡ now) ⊎ (c ≡ now))
of_three a b c now (zero, lt, e) = inl e
of_three a b c now (suc zero, lt, e) = inr (inl e)
of_three a b c now (suc (suc zero), lt, e) = inr (inr e)
of_three a b c now (suc (suc (suc k)), lt, e) = absurd (omega arith)

first : (a b c now : Page) → a ≡ now → MayBeLeft (a ∷ b ∷ c ∷ []) now
first a b c now e = inl (0, omega arith, e)

second : (a b c now : Page) → b ≡ now → MayBeLeft (a ∷ b ∷ c ∷ []) now
second a b c now e = inl (1, omega arith, e)

third : (a b c now : Page) → c ≡ now → MayBeLeft (a ∷ b ∷ c ∷ []) now
third a b c now e = inl (2, omega arith, e)

-- two calls, of which one left the page, are one
lasts_of : (lasted was mid kept is now : Page) → LastsOf lasted was mid kept → LastsOf kept mid is now → (mid ≡ was) ⊎ (is ≡ mid) → LastsOf lasted was is now
lasts_of lasted was mid kept is now one two same = record {
  left = elim two.left [
    | inl c ↦ elim (of_three kept mid is now c) [
      | inl e ↦ subst (MayBeLeft (lasted ∷ was ∷ is ∷ [])) e (elim one.left [
        | inl d ↦ elim (of_three lasted was mid kept d) [
          | inl f ↦ first lasted was is kept f
          | inr o ↦ elim o [ inl f ↦ second lasted was is kept f | inr f ↦ middle kept f ]
        ]
        | inr none ↦ inr none
      ])
      | inr o ↦ elim o [ inl e ↦ middle now e | inr e ↦ third lasted was is now e ]
    ]
    | inr none ↦ inr none
  ];
  kept = λ a b. elim same [
    | inl e ↦ two.kept (one.kept a e ∙ sym e) (b ∙ sym e) ∙ e
    | inr e ↦ let m : mid ≡ was = sym e ∙ b in two.kept (one.kept a m ∙ sym m) e ∙ m
  ];
}
  where
    middle : (p : Page) → mid ≡ p → MayBeLeft (lasted ∷ was ∷ is ∷ []) p
    middle p e = elim same [ inl f ↦ second lasted was is p (sym f ∙ e) | inr f ↦ third lasted was is p (f ∙ e) ]

-- a sync after another call
lasts_synced : (s m t : Held) (done : Bool) → Lasts s m → Syncs m done t → Lasts s t
lasts_synced s m t done one two row =
    lasts_of (page_in s.durable row) (page_in s.pages row) (page_in m.pages row) (page_in m.durable row) (page_in t.pages row) (page_in t.durable row) (one row) (two.lasts row)
    (inr (ap (λ (image : Image). page_in image row) two.same))

-- a page was put, and then the store was synced
pub programs_synced : (s m t : Held) (row : ℕ) (page : Page) (sync_when : SyncWhen) (done : Bool) → AreImages s → row < row_count s.geometry → Puts s row page true m → Syncs m done t
    → ProgramsIn s row page sync_when done t
programs_synced s m t row page sync_when done w lt puts syncs =
    let there : page_in t.pages row ≡ page = ap (λ (image : Image). page_in image row) (syncs.same ∙ puts.put refl) ∙ get_or-set_same s.pages row page no_page (subst (λ n. row < n) (sym w.pages_whole.rows) lt) in
    record {
      puts = record {
        put = λ e. syncs.same ∙ puts.put refl;
        torn = λ e. inl (1, omega arith, sym there);
        others = λ r ne. ap (λ (image : Image). page_in image r) syncs.same ∙ puts.others r ne;
        lasts = lasts_synced s m t done puts.lasts syncs;
        whole = λ v. syncs.whole (puts.whole v);
      };
      synced = λ a e. syncs.synced e ∙ sym syncs.same;
    }

-- what is held after a sync that was done
abbrev pub synced : Held → Held
synced s = record { geometry = s.geometry; pages = s.pages; durable = s.pages }

pub synced_is : (s m : Held) → Syncs s true m → m.geometry ≡ s.geometry → m ≡ synced s
synced_is s m syncs e = held_is m s.geometry s.pages e syncs.same (syncs.synced refl)
  where
    held_is : (h : Held) (g : Geometry) (pages : Image) → h.geometry ≡ g → h.pages ≡ pages → h.durable ≡ pages → h ≡ record { geometry = g; pages = pages; durable = pages }
    held_is h g pages a b c =
        ap (λ x. record { geometry = x; pages = h.pages; durable = h.durable }) a
        ∙ (ap (λ x. record { geometry = g; pages = x; durable = h.durable }) b ∙ ap (λ x. record { geometry = g; pages = pages; durable = x }) c)

-- a clear after that
clears_synced : (s n : Held) (block : ℕ) (done : Bool) → AreImages s → Clears (synced s) block done n → Clears s block done n
clears_synced s n block done w clears = record {
  cleared = clears.cleared;
  torn = clears.torn;
  others = clears.others;
  lasts = λ row. let l = clears.lasts row in record {
    left = elim l.left [
      | inl c ↦ elim (of_three (page_in s.pages row) (page_in s.pages row) (page_in n.pages row) (page_in n.durable row) c) [
        | inl e ↦ second (page_in s.durable row) (page_in s.pages row) (page_in n.pages row) (page_in n.durable row) e
        | inr o ↦ elim o [
          | inl e ↦ second (page_in s.durable row) (page_in s.pages row) (page_in n.pages row) (page_in n.durable row) e
          | inr e ↦ third (page_in s.durable row) (page_in s.pages row) (page_in n.pages row) (page_in n.durable row) e
        ]
      ]
      | inr none ↦ inr none
    ];
    kept = λ a b. l.kept refl b;
  };
  whole = λ v. clears.whole (record { pages_whole = v.pages_whole; durable_whole = v.pages_whole });
}

-- the clear failed
pub erases_failed : (s m n : Held) (block : ℕ) → AreImages s → Syncs s true m → m.geometry ≡ s.geometry → Clears m block false n → ErasesInStore s block false n
erases_failed s m n block w syncs e clears =
    let now : Clears (synced s) block false n = subst (λ (h : Held). Clears h block false n) (synced_is s m syncs e) clears in
    record {
      clears = clears_synced s n block false w now;
      before = inr (λ row ne. (now.lasts row).kept refl (now.others row ne));
      after = λ d. let no : ⊥ = cc in absurd no;
    }

-- the clear was done, and then the store was synced
pub erases_synced : (s m n t : Held) (block : ℕ) (done : Bool) → AreImages s → block < s.geometry.blocks → Syncs s true m → m.geometry ≡ s.geometry → Clears m block true n → Syncs n done t
    → ErasesInStore s block done t
erases_synced s m n t block done w lt syncs e clears last =
    let now : Clears (synced s) block true n = subst (λ (h : Held). Clears h block true n) (synced_is s m syncs e) clears in
    let all : Clears s block true n = clears_synced s n block true w now in
    record {
      clears = record {
        cleared = λ d. last.same ∙ all.cleared refl;
        torn = λ d row is. inl (1, omega arith, sym (ap (λ (image : Image). page_in image row) (last.same ∙ all.cleared refl) ∙ erased_in s.geometry block row s.pages w.pages_whole.rows lt is));
        others = λ row ne. ap (λ (image : Image). page_in image row) last.same ∙ all.others row ne;
        lasts = lasts_synced s n t done all.lasts last;
        whole = λ v. last.whole (all.whole v);
      };
      before = inr (λ row ne.
          let here : page_in n.durable row ≡ page_in s.pages row = (now.lasts row).kept refl (now.others row ne) in
          let stays : page_in n.pages row ≡ page_in s.pages row = now.others row ne in
          (last.lasts row).kept (here ∙ sym stays) (ap (λ (image : Image). page_in image row) last.same) ∙ stays);
      after = λ d. last.synced d ∙ sym last.same;
    }
