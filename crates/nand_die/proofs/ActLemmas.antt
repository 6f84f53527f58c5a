-- What a die does is a case of the protocol.
use Rattle.std.proofs.Common.{◌≡◌, ◌⊎◌, inl, inr, ℕ, zero, suc, ◌+◌, ◌-◌, ◌*◌, ◌<◌, ◌≤◌, ◌==◌, Bool, true, false, not, ◌&&◌, List, [], ◌∷◌, ◌++◌, take}
use Rattle.std.proofs.Common.{drop, length, refl, sym, ◌∙◌, ap, subst, arith, get_or, if◌then◌else◌, nat_lt, Ok, Err, length-drop, length-append}
use Rattle.std.proofs.Common.{append_assoc, None, Some, Option}
use Rattle.std.specs.Prelude.{is_some}
use Rattle.std.proofs.lemmas.List.{get_or-set_same, length-map, length-take-le, length-replicate, get_or-take, get_or-drop, drop-drop}
use Rattle.std.proofs.lemmas.Option.{slice_get-get_or}
use Rattle.std.proofs.lemmas.Bool.{ltb-true, le-leb, cases_Bool, and_left}
use Rattle.page_layout.specs.declared.geometry.Geometry.{Geometry}
use Rattle.page_layout.specs.Geometry.{row_count, page_bytes}
use Rattle.page_layout.specs.Page.{Page, IsPage}
use Rattle.page_layout.specs.Raw.{IsRaw}
use Rattle.page_layout.specs.Sound.{record_of}
use Rattle.page_layout.specs.Change.{erased_page}
use Rattle.page_layout.specs.Counter.{counted}
use Rattle.page_layout.specs.Flash.{Flash, Program, Erase, Steps, IsLawfulProgram, IsLawfulErase, IsWhole, after, page_at, block_at, may_program}
use Rattle.page_layout.specs.Flash.{may_erase, no_page}
use Rattle.page_layout.proofs.RawLemmas.{raw_image_whole}
use Rattle.onfi_cycles.specs.Cycles.{Phase, Due, Moves, Resets, Programs, Erases, Refuses, Ready, NoOutput, Loading, page_of, replaced, data_in_due}
use Rattle.onfi_cycles.specs.Cycles.{FailsBy, to_phase, given_up, status_of}
use Rattle.onfi_cycles.specs.declared.nand.BusFault.{BusFault}
use Rattle.onfi_cycles.specs.declared.nand.BusFault.TheVariants.{NoReset, UnknownCommand, OutOfTurn, AddressRange, ColumnRange, Device}
use Rattle.nand_die.specs.declared.fault.Fault.{Fault}
use Rattle.nand_die.specs.declared.bus_state.BusState.{BusState}
use Rattle.nand_die.specs.declared.bus_state.BusState.TheVariants as state
use Rattle.nand_die.specs.declared.bus_state.OutputSource.TheVariants as source
use Rattle.nand_die.specs.declared.change.NextPage.{NextPage}
use Rattle.nand_die.specs.BusState.{IsProtocolFault, phase_of}
use Rattle.nand_die.specs.Faults.{fault_at, left_by, IsPageLeft, ArePagesLeft}
use Rattle.nand_die.specs.NextPages.{flash_of, left_page, left_block, next_page_of}
use Rattle.nand_die.specs.declared.chip.Chip.TheInside.{Inside}
use Rattle.nand_die.specs.contracts.chip.Chip.{the_view}
use Rattle.nand_die.specs.ChipValue.{AreFields, ChipValue, answered, Acts, in_state, fault_next, program_passes, program_left, erase_passes, erase_left}
use Rattle.nand_die.proofs.PagesLemmas.{block_within, middle_part}

-- the register of a phase that loads
pub loading_register : (register : List ℕ) (w : BusState) (row n : ℕ) (other : List ℕ) → phase_of register w ≡ Loading row n other → register ≡ other
loading_register register state.Unreset row n other e = cc
loading_register register (state.Ready out) row n other e = cc
loading_register register (state.Addressing purpose bytes) row n other e = cc
loading_register register (state.Confirming purpose r c) row n other e = cc
loading_register register (state.Loading r c) row n other e = cc

left_if : (g : Geometry) (b : Bool) (f : Fault) (o : Option Fault) → IsPageLeft g f.page_left.items → IsPageLeft g (left_by o) → IsPageLeft g (left_by (if b then Some f else o))
left_if g true f o h k = h
left_if g false f o h k = k

-- what a fault leaves may be left
pub left_at : (g : Geometry) (faults : List Fault) (n : ℕ) → ArePagesLeft g faults → IsPageLeft g (left_by (fault_at faults n))
left_at g [] n h = record { size = λ l. absurd (omega (arith, l)); unsound = λ l. absurd (omega (arith, l)) }
left_at g (f ∷ fs) n h = left_if g (f.nth_change == n) f (fault_at fs n) h.0 (left_at g fs n h.1)

-- what the next fault leaves is as long as a page, where it leaves any bytes
pub struck_size : (i : Inside) (fs : List Fault) (left : List ℕ) → AreFields i.geometry i.bytes.items i.register.items i.next_pages.items i.bus_state i.faults.items
    → left ≡ left_by (fault_at fs (i.counts.asked + 1)) → fs ≡ i.faults.items → 0 < length left → length left ≡ page_bytes i.geometry
struck_size i fs left fit is same =
    (subst (IsPageLeft i.geometry) (sym (is ∙ ap (λ gs. left_by (fault_at gs (i.counts.asked + 1))) same)) (left_at i.geometry i.faults.items (i.counts.asked + 1) fit.left)).size

-- other pages in the fields
pub pages_changed : (i : Inside) (bytes bytes' : List ℕ) → AreFields i.geometry i.bytes.items i.register.items i.next_pages.items i.bus_state i.faults.items → bytes' ≡ bytes → IsRaw i.geometry bytes
    → AreFields i.geometry bytes' i.register.items i.next_pages.items i.bus_state i.faults.items
pages_changed i bytes bytes' fit is raw = record {
  raw = subst (IsRaw i.geometry) (sym is) raw;
  register_whole = fit.register_whole;
  blocks = fit.blocks;
  within = fit.within;
  left = fit.left;
}

-- the same after a program or an erase: other next pages too, and nothing is put out
pub change_fits : (i : Inside) (bytes bytes' : List ℕ) (next_pages next_pages' : List NextPage) → AreFields i.geometry i.bytes.items i.register.items i.next_pages.items i.bus_state i.faults.items → bytes' ≡ bytes → next_pages' ≡ next_pages
    → IsRaw i.geometry bytes → length next_pages ≡ i.geometry.blocks → AreFields i.geometry bytes' i.register.items next_pages' (state.Ready source.Nothing) i.faults.items
change_fits i bytes bytes' next_pages next_pages' fit is are raw blocks = record {
  raw = subst (IsRaw i.geometry) (sym is) raw;
  register_whole = fit.register_whole;
  blocks = ap length are ∙ blocks;
  within = tt;
  left = fit.left;
}

-- an array of the right length is whole
pub whole_of : (g : Geometry) (bytes : List ℕ) (next_pages : List NextPage) (abuse : ℕ) → IsRaw g bytes → length next_pages ≡ g.blocks → IsWhole (flash_of g bytes next_pages abuse)
whole_of g bytes next_pages abuse raw lt = record { image_whole = raw_image_whole g bytes raw.whole raw.fits; next_pages_whole = length-map next_pages next_page_of ∙ lt }

-- a cycle that moves to another phase
pub acts_moves : {A : Type 0} → (due : Due) (d e : ChipValue) (phase : Phase) (x : A) → due ≡ Moves phase → e ≡ in_state (to_phase phase d.state) d → IsWhole d.state.flash → Acts due d e (Ok x)
acts_moves due d e phase x is to w = subst (λ u. Acts u d e (Ok x)) (sym is)
    (subst (λ v. Acts (Moves phase) d v (Ok x)) (sym to) (record { does = refl; follows = refl; own = tt; same = refl; whole = w }))

pub acts_resets : {A : Type 0} → (due : Due) (d e : ChipValue) (x : A) → due ≡ Resets → e ≡ answered Resets d → IsWhole d.state.flash → Acts due d e (Ok x)
acts_resets due d e x is to w = subst (λ u. Acts u d e (Ok x)) (sym is)
    (subst (λ v. Acts Resets d v (Ok x)) (sym to) (record { does = refl; follows = refl; own = tt; same = refl; whole = w }))

fails_by : (d : ChipValue) (fault : BusFault) → FailsBy (Refuses fault) d.state (to_phase (given_up d.state.phase) d.state) fault
fails_by d NoReset = (refl, refl)
fails_by d UnknownCommand = (refl, refl)
fails_by d OutOfTurn = (refl, refl)
fails_by d AddressRange = (refl, refl)
fails_by d ColumnRange = (refl, refl)
fails_by d Device = refl

pub acts_refuses : (A : Type 0) → (d e : ChipValue) (fault : BusFault) → IsProtocolFault fault → e ≡ answered (Refuses fault) d → IsWhole d.state.flash → Acts {A = A} (Refuses fault) d e (Err fault)
acts_refuses A d e fault own to w = subst (λ v. Acts {A = A} (Refuses fault) d v (Err fault)) (sym to)
    (record { does = refl; follows = fails_by d fault; own = own; same = refl; whole = w })

and_true : (a b : Bool) → (a && b) ≡ true → a ≡ true
and_true true b e = refl
and_true false b e = e

lt_cases : (n : ℕ) → ((nat_lt 0 n ≡ true) × (0 < n)) ⊎ (nat_lt 0 n ≡ false)
lt_cases n = elim (cases_Bool (nat_lt 0 n)) [ inl e ↦ inl (e, ltb-true 0 n e) | inr e ↦ inr e ]

failed_page : (g : Geometry) (old : Page) (legal : Bool) (page : Page) (left : List ℕ) → IsPageLeft g left → (left_page g old legal false page left ≡ old) ⊎ (record_of (left_page g old legal false page left) ≡ None)
failed_page g old false page left u = inl refl
failed_page g old true page left u = elim (lt_cases (length left)) [
  | inl e ↦ inr (ap (λ b. record_of (if b then page_of g left else old)) e.0 ∙ u.unsound e.1)
  | inr e ↦ inl (ap (λ b. if b then page_of g left else old) e)
]

-- a page of a die that is whole
page_sized : (f : Flash) (g : Geometry) (row : ℕ) → IsWhole f → f.geometry ≡ g → row < row_count g → IsPage g (page_at f row)
page_sized f g row w same lt = subst (λ h. IsPage h (page_at f row)) same
    (w.image_whole.pages row (page_at f row) (slice_get-get_or f.image row no_page (subst (λ n. row < n) (sym w.image_whole.rows) (subst (λ h. row < row_count h) (sym same) lt))))

lawful_program : (d : ChipValue) (row : ℕ) (page : Page) → row < length d.state.flash.image → IsPage d.state.flash.geometry (program_left d row page) → IsPageLeft d.state.flash.geometry (left_by (fault_next d))
    → IsLawfulProgram d.state.flash row page (program_passes d row) (program_left d row page)
lawful_program d row page lt sized left =
    let f : Flash = d.state.flash in
    let may : Bool = may_program f row in
    let was : Page = page_at f row in
    let bytes : List ℕ = left_by (fault_next d) in
    record {
      in_range = lt;
      sized = sized;
      due = λ p. and_true may (not (is_some (fault_next d))) p;
      kept = λ p. ap (λ b. left_page f.geometry was may b page bytes) p;
      failed = λ p. subst (λ x. (x ≡ was) ⊎ (record_of x ≡ None)) (sym (ap (λ b. left_page f.geometry was may b page bytes) p)) (failed_page f.geometry was may page bytes left);
      refused = λ r. ap (λ b. left_page f.geometry was may b page bytes) (and_left may (not (is_some (fault_next d))) r) ∙ ap (λ b. left_page f.geometry was b false page bytes) r;
    }

page_left_at : (f : Flash) (row : ℕ) (page : Page) (passed : Bool) (left : Page) → row < length f.image → left ≡ page_at (after f (Program row page passed left)) row
unfolding after
page_left_at f row page passed left lt = sym (get_or-set_same f.image row left no_page lt)

pub acts_programs : {A : Type 0} → (d e : ChipValue) (row : ℕ) (page : Page) (x : A) → e ≡ answered (Programs row page) d → row < row_count d.state.flash.geometry → IsWhole d.state.flash → IsWhole e.state.flash → e.state.flash.geometry ≡ d.state.flash.geometry
    → IsPageLeft d.state.flash.geometry (left_by (fault_next d)) → Acts (Programs row page) d e (Ok x)
acts_programs d e row page x is lt w v same fair =
    let f : Flash = d.state.flash in
    let P : Bool = program_passes d row in
    let L : Page = program_left d row page in
    let inside : row < length f.image = subst (λ n. row < n) (sym w.image_whole.rows) lt in
    let flash : e.state.flash ≡ after f (Program row page P L) = ap (λ (u : ChipValue). u.state.flash) is in
    let left : L ≡ page_at e.state.flash row = page_left_at f row page P L inside ∙ ap (λ g. page_at g row) (sym flash) in
    let sized : IsPage f.geometry L = subst (IsPage f.geometry) (sym left) (page_sized e.state.flash f.geometry row v same lt) in
    record {
      does = is;
      follows = record {
        passed = P;
        step = subst (λ l. Steps f (Program row page P l) e.state.flash) left (record { lawful = lawful_program d row page inside sized fair; left = flash });
        phase = ap (λ (u : ChipValue). u.state.phase) is;
        status = ap (λ (u : ChipValue). u.state.status) is;
      };
      own = tt;
      same = same;
      whole = v;
    }

-- a block that was erased, or not
length_block : (g : Geometry) (ps : List Page) (block : ℕ) → block < g.blocks → length ps ≡ row_count g → length (take g.pages (drop (block * g.pages) ps)) ≡ g.pages
length_block g ps block lt e =
    let le : block * g.pages + g.pages ≤ length ps = subst (λ n. block * g.pages + g.pages ≤ n) (sym e) (block_within g block lt) in
    length-take-le g.pages (drop (block * g.pages) ps) (omega (arith, le, length-drop (block * g.pages) ps))

length_struck : (ps : List Page) (p : Page) (n : ℕ) → length ps ≡ n → 0 < n → length (p ∷ drop 1 ps) ≡ n
length_struck [] p n e lt = absurd (omega (arith, e, lt))
length_struck (q ∷ ps) p n e lt = e

length_if : (b : Bool) (xs ys : List Page) (n : ℕ) → length xs ≡ n → length ys ≡ n → length (if b then xs else ys) ≡ n
length_if true xs ys n e f = e
length_if false xs ys n e f = f

length_left : (g : Geometry) (old : List Page) (legal passed : Bool) (left : List ℕ) → length old ≡ g.pages → 0 < g.pages → length (left_block g old legal passed left) ≡ g.pages
length_left g old legal true left e lt = length-replicate g.pages (erased_page g)
length_left g old false false left e lt = e
length_left g old true false left e lt = length_if (nat_lt 0 (length left)) (page_of g left ∷ drop 1 old) old g.pages (length_struck old (page_of g left) g.pages e lt) e

failed_first : (ps : List Page) (p : Page) (k : ℕ) → record_of p ≡ None → (get_or (p ∷ drop 1 ps) k no_page ≡ get_or ps k no_page) ⊎ (record_of (get_or (p ∷ drop 1 ps) k no_page) ≡ None)
failed_first ps p zero u = inr u
failed_first [] p (suc k) u = inl refl
failed_first (q ∷ ps) p (suc k) u = inl refl

failed_block : (g : Geometry) (old : List Page) (legal : Bool) (left : List ℕ) (k : ℕ) → IsPageLeft g left
    → (get_or (left_block g old legal false left) k no_page ≡ get_or old k no_page) ⊎ (record_of (get_or (left_block g old legal false left) k no_page) ≡ None)
failed_block g old false left k u = inl refl
failed_block g old true left k u = elim (lt_cases (length left)) [
  | inl e ↦ subst (λ b. (get_or (if b then page_of g left ∷ drop 1 old else old) k no_page ≡ get_or old k no_page) ⊎ (record_of (get_or (if b then page_of g left ∷ drop 1 old else old) k no_page) ≡ None)) (sym e.0)
      (failed_first old (page_of g left) k (u.unsound e.1))
  | inr e ↦ inl (ap (λ b. get_or (if b then page_of g left ∷ drop 1 old else old) k no_page) e)
]

page_in_block : (ps : List Page) (a b k : ℕ) → k < b → get_or (take b (drop a ps)) k no_page ≡ get_or ps (a + k) no_page
page_in_block ps a b k lt = get_or-take b (drop a ps) k no_page lt ∙ get_or-drop a ps k no_page

lawful_erase : (d : ChipValue) (block : ℕ) → IsWhole d.state.flash → block < d.state.flash.geometry.blocks → IsPageLeft d.state.flash.geometry (left_by (fault_next d))
    → ((k : ℕ) → k < d.state.flash.geometry.pages → IsPage d.state.flash.geometry (get_or (erase_left d block) k no_page))
    → IsLawfulErase d.state.flash block (erase_passes d block) (erase_left d block)
lawful_erase d block w lt left sized =
    let f : Flash = d.state.flash in
    let g : Geometry = f.geometry in
    let may : Bool = may_erase f block in
    let was : List Page = block_at f block in
    let bytes : List ℕ = left_by (fault_next d) in
    record {
      in_range = subst (λ n. block < n) (sym w.next_pages_whole) lt;
      in_image = subst (λ n. block * g.pages + g.pages ≤ n) (sym w.image_whole.rows) (block_within g block lt);
      due = λ p. and_true may (not (is_some (fault_next d))) p;
      size = length_left g was may (erase_passes d block) bytes (length_block g f.image block lt w.image_whole.rows) (omega (arith, g.limits.page_count.least));
      sized = sized;
      erased = λ p. ap (λ b. left_block g was may b bytes) p;
      failed = λ p k h. subst (λ b. (get_or (left_block g was may b bytes) k no_page ≡ page_at f (block * g.pages + k)) ⊎ (record_of (get_or (left_block g was may b bytes) k no_page) ≡ None)) (sym p)
          (subst (λ q. (get_or (left_block g was may false bytes) k no_page ≡ q) ⊎ (record_of (get_or (left_block g was may false bytes) k no_page) ≡ None)) (page_in_block f.image (block * g.pages) g.pages k h)
          (failed_block g was may bytes k left));
      refused = λ r. ap (λ b. left_block g was may b bytes) (and_left may (not (is_some (fault_next d))) r) ∙ ap (λ b. left_block g was b false bytes) r;
    }

block_left_at : (f : Flash) (block : ℕ) (passed : Bool) (left : List Page) → length left ≡ f.geometry.pages → block * f.geometry.pages ≤ length f.image → left ≡ block_at (after f (Erase block passed left)) block
unfolding after
block_left_at f block passed left e le = sym (middle_part (take (block * f.geometry.pages) f.image) left (drop (block * f.geometry.pages + f.geometry.pages) f.image) (block * f.geometry.pages) f.geometry.pages (length-take-le (block * f.geometry.pages) f.image le) e)

pub acts_erases : {A : Type 0} → (d e : ChipValue) (block : ℕ) (x : A) → e ≡ answered (Erases block) d → block < d.state.flash.geometry.blocks → IsWhole d.state.flash → IsWhole e.state.flash → e.state.flash.geometry ≡ d.state.flash.geometry
    → IsPageLeft d.state.flash.geometry (left_by (fault_next d)) → Acts (Erases block) d e (Ok x)
acts_erases d e block x is lt w v same fair =
    let f : Flash = d.state.flash in
    let P : Bool = erase_passes d block in
    let L : List Page = erase_left d block in
    let size : length L ≡ f.geometry.pages = length_left f.geometry (block_at f block) (may_erase f block) P (left_by (fault_next d)) (length_block f.geometry f.image block lt w.image_whole.rows) (omega (arith, f.geometry.limits.page_count.least)) in
    let flash : e.state.flash ≡ after f (Erase block P L) = ap (λ (u : ChipValue). u.state.flash) is in
    let within : block * f.geometry.pages + f.geometry.pages ≤ row_count f.geometry = block_within f.geometry block lt in
    let le : block * f.geometry.pages ≤ length f.image = omega (arith, within, w.image_whole.rows) in
    let left : L ≡ block_at e.state.flash block = block_left_at f block P L size le ∙ ap (λ g. block_at g block) (sym flash) in
    let pages : e.state.flash.geometry.pages ≡ f.geometry.pages = ap (λ (g : Geometry). g.pages) same in
    let sized : (k : ℕ) → k < f.geometry.pages → IsPage f.geometry (get_or L k no_page) = λ k small.
    let at : get_or L k no_page ≡ page_at e.state.flash (block * f.geometry.pages + k) =
    ap (λ xs. get_or xs k no_page) left ∙ (ap (λ n. get_or (take n (drop (block * n) e.state.flash.image)) k no_page) pages ∙ page_in_block e.state.flash.image (block * f.geometry.pages) f.geometry.pages k small) in
    subst (IsPage f.geometry) (sym at) (page_sized e.state.flash f.geometry (block * f.geometry.pages + k) v same (omega (arith, small, within))) in
    let law : IsLawfulErase f block P L = lawful_erase d block w lt fair sized in
    record {
      does = is;
      follows = record {
        passed = P;
        step = subst (λ l. Steps f (Erase block P l) e.state.flash) left (record { lawful = law; left = flash });
        phase = ap (λ (u : ChipValue). u.state.phase) is;
        status = ap (λ (u : ChipValue). u.state.status) is;
      };
      own = tt;
      same = same;
      whole = v;
    }

-- the value after a program or an erase
abbrev pub done : ChipValue → Flash → Bool → ℕ → ℕ → ChipValue
done d flash passed asked changes = record { state = record { flash = flash; phase = Ready NoOutput; status = status_of passed }; faults = d.faults; asked = asked; changes = changes }

done_as : (d : ChipValue) (f g : Flash) (p q : Bool) (a b m n : ℕ) → f ≡ g → p ≡ q → a ≡ b → m ≡ n → done d f p a m ≡ done d g q b n
done_as d f g p q a b m n e1 e2 e3 e4 = ap (λ u. done d u p a m) e1 ∙ (ap (λ u. done d g u a m) e2 ∙ (ap (λ u. done d g q u m) e3 ∙ ap (λ u. done d g q b u) e4))

programs_as : (d : ChipValue) (flash : Flash) (row : ℕ) (page : Page) (legal passed comes : Bool) (left : List ℕ) (asked changes : ℕ)
    → legal ≡ may_program d.state.flash row → passed ≡ (legal && not comes) → comes ≡ is_some (fault_next d) → left ≡ left_by (fault_next d)
    → flash ≡ after d.state.flash (Program row page passed (left_page d.state.flash.geometry (page_at d.state.flash row) legal passed page left)) → asked ≡ counted d.asked → changes ≡ counted d.changes
    → done d flash passed asked changes ≡ answered (Programs row page) d
programs_as d flash row page legal passed comes left asked changes is_legal is_passed is_struck is_left is_flash is_asked is_changes =
    let f : Flash = d.state.flash in
    let was : Page = page_at f row in
    let may : Bool = may_program f row in
    let p : passed ≡ program_passes d row = is_passed ∙ (ap (λ b. b && not comes) is_legal ∙ ap (λ b. may && not b) is_struck) in
    let l : left_page f.geometry was legal passed page left ≡ program_left d row page
    = ap (λ b. left_page f.geometry was b passed page left) is_legal ∙ (ap (λ b. left_page f.geometry was may b page left) p ∙ ap (λ xs. left_page f.geometry was may (program_passes d row) page xs) is_left) in
    done_as d _ _ _ _ _ _ _ _ (is_flash ∙ (ap (λ b. after f (Program row page b (left_page f.geometry was legal passed page left))) p ∙ ap (λ m. after f (Program row page (program_passes d row) m)) l)) p is_asked is_changes

erases_as : (d : ChipValue) (flash : Flash) (block : ℕ) (legal passed comes : Bool) (left : List ℕ) (asked changes : ℕ)
    → legal ≡ may_erase d.state.flash block → passed ≡ (legal && not comes) → comes ≡ is_some (fault_next d) → left ≡ left_by (fault_next d)
    → flash ≡ after d.state.flash (Erase block passed (left_block d.state.flash.geometry (block_at d.state.flash block) legal passed left)) → asked ≡ counted d.asked → changes ≡ counted d.changes
    → done d flash passed asked changes ≡ answered (Erases block) d
erases_as d flash block legal passed comes left asked changes is_legal is_passed is_struck is_left is_flash is_asked is_changes =
    let f : Flash = d.state.flash in
    let was : List Page = block_at f block in
    let may : Bool = may_erase f block in
    let p : passed ≡ erase_passes d block = is_passed ∙ (ap (λ b. b && not comes) is_legal ∙ ap (λ b. may && not b) is_struck) in
    let l : left_block f.geometry was legal passed left ≡ erase_left d block
    = ap (λ b. left_block f.geometry was b passed left) is_legal ∙ (ap (λ b. left_block f.geometry was may b left) p ∙ ap (λ xs. left_block f.geometry was may (erase_passes d block) xs) is_left) in
    done_as d _ _ _ _ _ _ _ _ (is_flash ∙ (ap (λ b. after f (Erase block b (left_block f.geometry was legal passed left))) p ∙ ap (λ m. after f (Erase block (erase_passes d block) m)) l)) p is_asked is_changes

-- a program of the fields
pub program_acts : {A : Type 0} → (i : Inside) (xs ys bytes : List ℕ) (ts next_pages : List NextPage) (fs : List Fault) (row : ℕ) (legal passed comes : Bool) (left : List ℕ) (abuse asked changes : ℕ) (x : A)
    → AreFields i.geometry i.bytes.items i.register.items i.next_pages.items i.bus_state i.faults.items → row < row_count i.geometry
    → xs ≡ i.bytes.items → ts ≡ i.next_pages.items → ys ≡ i.register.items → fs ≡ i.faults.items
    → comes ≡ is_some (fault_at fs (i.counts.asked + 1)) → left ≡ left_by (fault_at fs (i.counts.asked + 1))
    → legal ≡ may_program (flash_of i.geometry xs ts i.counts.abuse) row → passed ≡ (legal && not comes)
    → flash_of i.geometry bytes next_pages (if legal then i.counts.abuse else counted i.counts.abuse)
    ≡ after (flash_of i.geometry xs ts i.counts.abuse) (Program row (page_of i.geometry ys) passed (left_page i.geometry (page_at (flash_of i.geometry xs ts i.counts.abuse) row) legal passed (page_of i.geometry ys) left))
    → abuse ≡ (if legal then i.counts.abuse else counted i.counts.abuse) → asked ≡ counted i.counts.asked → changes ≡ counted i.counts.changes
    → IsRaw i.geometry bytes → length next_pages ≡ length ts
    → Acts (Programs row (page_of i.geometry i.register.items)) (the_view i) (done (the_view i) (flash_of i.geometry bytes next_pages abuse) passed asked changes) (Ok x)
program_acts i xs ys bytes ts next_pages fs row legal passed comes left abuse asked changes x fit lt e1 e2 e3 e4 is_comes is_left is_legal is_passed is_flash is_abuse is_asked is_changes raw lt' =
    let g = i.geometry in
    let n : ℕ = i.counts.abuse in
    let d : ChipValue = the_view i in
    let K : List ℕ → List NextPage → List ℕ → Flash
    = λ zs us ws. after (flash_of g zs us n) (Program row (page_of g ws) passed (left_page g (page_at (flash_of g zs us n) row) legal passed (page_of g ws) left)) in
    acts_programs d _ row (page_of g i.register.items) x
    (programs_as d (flash_of g bytes next_pages abuse) row (page_of g i.register.items) legal passed comes left asked changes
    (is_legal ∙ (ap (λ zs. may_program (flash_of g zs ts n) row) e1 ∙ ap (λ us. may_program (flash_of g i.bytes.items us n) row) e2)) is_passed
    (is_comes ∙ ap (λ gs. is_some (fault_at gs (i.counts.asked + 1))) e4) (is_left ∙ ap (λ gs. left_by (fault_at gs (i.counts.asked + 1))) e4)
    (ap (flash_of g bytes next_pages) is_abuse ∙ (is_flash ∙ (ap (λ zs. K zs ts ys) e1 ∙ (ap (λ us. K i.bytes.items us ys) e2 ∙ ap (λ ws. K i.bytes.items i.next_pages.items ws) e3)))) is_asked is_changes)
    lt (whole_of g i.bytes.items i.next_pages.items n fit.raw fit.blocks)
    (whole_of g bytes next_pages abuse raw (lt' ∙ (ap length e2 ∙ fit.blocks))) refl (left_at g i.faults.items (i.counts.asked + 1) fit.left)

-- an erase of the fields
pub erase_acts : {A : Type 0} → (i : Inside) (xs bytes : List ℕ) (ts next_pages : List NextPage) (fs : List Fault) (block : ℕ) (legal passed comes : Bool) (left : List ℕ) (abuse asked changes : ℕ) (x : A)
    → AreFields i.geometry i.bytes.items i.register.items i.next_pages.items i.bus_state i.faults.items → block < i.geometry.blocks
    → xs ≡ i.bytes.items → ts ≡ i.next_pages.items → fs ≡ i.faults.items
    → comes ≡ is_some (fault_at fs (i.counts.asked + 1)) → left ≡ left_by (fault_at fs (i.counts.asked + 1))
    → legal ≡ may_erase (flash_of i.geometry xs ts i.counts.abuse) block → passed ≡ (legal && not comes)
    → flash_of i.geometry bytes next_pages (if legal then i.counts.abuse else counted i.counts.abuse)
    ≡ after (flash_of i.geometry xs ts i.counts.abuse) (Erase block passed (left_block i.geometry (block_at (flash_of i.geometry xs ts i.counts.abuse) block) legal passed left))
    → abuse ≡ (if legal then i.counts.abuse else counted i.counts.abuse) → asked ≡ counted i.counts.asked → changes ≡ counted i.counts.changes
    → IsRaw i.geometry bytes → length next_pages ≡ length ts
    → Acts (Erases block) (the_view i) (done (the_view i) (flash_of i.geometry bytes next_pages abuse) passed asked changes) (Ok x)
erase_acts i xs bytes ts next_pages fs block legal passed comes left abuse asked changes x fit lt e1 e2 e4 is_comes is_left is_legal is_passed is_flash is_abuse is_asked is_changes raw lt' =
    let g = i.geometry in
    let n : ℕ = i.counts.abuse in
    let d : ChipValue = the_view i in
    let K : List ℕ → List NextPage → Flash
    = λ zs us. after (flash_of g zs us n) (Erase block passed (left_block g (block_at (flash_of g zs us n) block) legal passed left)) in
    acts_erases d _ block x
    (erases_as d (flash_of g bytes next_pages abuse) block legal passed comes left asked changes
    (is_legal ∙ (ap (λ zs. may_erase (flash_of g zs ts n) block) e1 ∙ ap (λ us. may_erase (flash_of g i.bytes.items us n) block) e2)) is_passed
    (is_comes ∙ ap (λ gs. is_some (fault_at gs (i.counts.asked + 1))) e4) (is_left ∙ ap (λ gs. left_by (fault_at gs (i.counts.asked + 1))) e4)
    (ap (flash_of g bytes next_pages) is_abuse ∙ (is_flash ∙ (ap (λ zs. K zs ts) e1 ∙ ap (λ us. K i.bytes.items us) e2))) is_asked is_changes)
    lt (whole_of g i.bytes.items i.next_pages.items n fit.raw fit.blocks)
    (whole_of g bytes next_pages abuse raw (lt' ∙ (ap length e2 ∙ fit.blocks))) refl (left_at g i.faults.items (i.counts.asked + 1) fit.left)

-- the same where the fields are held in others
pub acts_closed : {A : Type 0} → (due : Due) (i : Inside) (bytes bytes' : List ℕ) (next_pages next_pages' : List NextPage) (abuse asked changes : ℕ) (passed : Bool) (x : A) → bytes' ≡ bytes → next_pages' ≡ next_pages
    → Acts due (the_view i) (done (the_view i) (flash_of i.geometry bytes next_pages abuse) passed asked changes) (Ok x)
    → Acts due (the_view i) (done (the_view i) (flash_of i.geometry bytes' next_pages' abuse) passed asked changes) (Ok x)
acts_closed due i bytes bytes' next_pages next_pages' abuse asked changes passed x e f h =
    subst (λ us. Acts due (the_view i) (done (the_view i) (flash_of i.geometry bytes' us abuse) passed asked changes) (Ok x)) (sym f)
    (subst (λ zs. Acts due (the_view i) (done (the_view i) (flash_of i.geometry zs next_pages abuse) passed asked changes) (Ok x)) (sym e) h)

-- the fields are whole
pub fields_whole : (i : Inside) → AreFields i.geometry i.bytes.items i.register.items i.next_pages.items i.bus_state i.faults.items → IsWhole (flash_of i.geometry i.bytes.items i.next_pages.items i.counts.abuse)
fields_whole i fit = whole_of i.geometry i.bytes.items i.next_pages.items i.counts.abuse fit.raw fit.blocks

-- a register in which bytes were written
replaced_so : (register here bytes written : List ℕ) (column k : ℕ) → here ≡ register → written ≡ bytes → k ≡ length bytes → take column here ++ (written ++ drop k (drop column here)) ≡ replaced register column bytes
replaced_so register here bytes written column k e f is_k =
    ap (λ r. take column r ++ (written ++ drop k (drop column r))) e ∙ (ap (λ b. take column register ++ (b ++ drop k (drop column register))) f ∙ (ap (λ n. take column register ++ (bytes ++ drop n (drop column register))) is_k
    ∙ (ap (λ r. take column register ++ (bytes ++ r)) (drop-drop (length bytes) column register) ∙ sym (append_assoc (take column register) bytes (drop (column + length bytes) register)))))

written_length : (here written : List ℕ) (column k : ℕ) → length written ≡ k → column + k ≤ length here → length (take column here ++ (written ++ drop k (drop column here))) ≡ length here
written_length here written column k e le =
    omega (arith, length-append (take column here) (written ++ drop k (drop column here)), length-append written (drop k (drop column here)), length-take-le column here (omega (arith, le)), length-drop k (drop column here), length-drop column here, e, le)

-- data that fits in is taken
load_in : (g : Geometry) (row column : ℕ) (register bytes : List ℕ) → column + length bytes ≤ page_bytes g → data_in_due g (Loading row column register) bytes ≡ Moves (Loading row (column + length bytes) (replaced register column bytes))
unfolding data_in_due
load_in g row column register bytes le = ap (λ b. if b then Moves (Loading row (column + length bytes) (replaced register column bytes)) else Refuses ColumnRange) (le-leb (column + length bytes) (page_bytes g) le)

-- bytes that fit in, taken into a register
pub taken_in : (g : Geometry) (register here bytes written : List ℕ) (w : BusState) (row column : ℕ) → (w ≡ state.Loading row column) × (column + length bytes ≤ page_bytes g)
    → length register ≡ page_bytes g → here ≡ register → written ≡ bytes
    → (data_in_due g (phase_of register w) bytes ≡ Moves (Loading row (column + length bytes) (replaced register column bytes)))
    × (length (take column here ++ (written ++ drop (column + length bytes - column) (drop column here))) ≡ length here)
    × (take column here ++ (written ++ drop (column + length bytes - column) (drop column here)) ≡ replaced register column bytes)
taken_in g register here bytes written w row column fits whole e f =
    let n : ℕ = column + length bytes - column in
    let is_n : n ≡ length bytes = omega arith in
    let size : length here ≡ page_bytes g = ap length e ∙ whole in (
      ap (λ (u : BusState). data_in_due g (phase_of register u) bytes) fits.0 ∙ load_in g row column register bytes fits.1,
      written_length here written column n (ap length f ∙ sym is_n) (omega (arith, fits.1, size)),
      replaced_so register here bytes written column n e f is_n,
    )
