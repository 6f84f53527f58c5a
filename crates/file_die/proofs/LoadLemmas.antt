-- A page that a die over a store loads and puts out.
use Rattle.std.proofs.Common.{◌≡◌, ℕ, Bool, true, List, length, Option, Some, None, refl, sym, ◌∙◌, ap, subst, Ok, Err}
use Rattle.page_layout.specs.declared.geometry.Geometry.{Geometry}
use Rattle.page_layout.specs.Flash.{NextState}
use Rattle.onfi_cycles.specs.Cycles.{Phase, Unreset, Ready, Taking, Confirming, Loading, PageOut, Moves, given_up, page_of}
use Rattle.onfi_cycles.specs.declared.nand.BusFault.{BusFault}
use Rattle.nand_die.specs.declared.bus_state.BusState.{BusState}
use Rattle.nand_die.specs.declared.bus_state.BusState.TheVariants as stands
use Rattle.nand_die.specs.declared.bus_state.OutputSource.TheVariants as source
use Rattle.nand_die.specs.declared.change.NextPage.{NextPage}
use Rattle.nand_die.specs.BusState.{IsWithin, phase_of}
use Rattle.file_die.specs.declared.die.SyncWhen.{SyncWhen}
use Rattle.file_die.specs.Store.{Held, AreImages, page_in}
use Rattle.file_die.specs.Die.{FileState, AreParts, ActsOverStore, Asks, flash_over}
use Rattle.file_die.proofs.DieLemmas.{acts_done, of_parts}
use Rattle.file_die.proofs.ChangeLemmas.{acts_failed}

-- ---- what is true of its parts

-- what was given up puts out no page
never_shown : (p : Phase) (row column : ℕ) → Ready (PageOut row column) ≡ given_up p → ⊥
never_shown Unreset row column e = let no : ⊥ = cc in no
never_shown (Ready out) row column e = let no : ⊥ = cc in no
never_shown (Taking purpose got) row column e = let no : ⊥ = cc in no
never_shown (Confirming purpose r c) row column e = let no : ⊥ = cc in no
never_shown (Loading r c register) row column e = let no : ⊥ = cc in no

no_row : (row : ℕ) → None ≡ Some row → ⊥
no_row row e = let no : ⊥ = cc in no

-- it goes on to another state
parts_moved : (s : Held) (a : Bool) (g : Geometry) (register buffer : List ℕ) (buffered : Option ℕ) (next_pages : List NextPage) (state to : BusState) → AreParts s a g register buffer buffered next_pages state
    → IsWithin g to → ((row column : ℕ) → to ≡ stands.Ready (source.Page row column) → buffered ≡ Some row) → AreParts s a g register buffer buffered next_pages to
parts_moved s a g register buffer buffered next_pages state to parts within put_out = record {
  same = parts.same;
  images = parts.images;
  register_whole = parts.register_whole;
  buffer_whole = parts.buffer_whole;
  next_pages_whole = parts.next_pages_whole;
  within = within;
  holds = parts.holds;
  put_out = put_out;
}

-- the unfinished command is given up
pub parts_given_up : (s : Held) (a : Bool) (g : Geometry) (register buffer : List ℕ) (buffered : Option ℕ) (next_pages : List NextPage) (state idle : BusState) → AreParts s a g register buffer buffered next_pages state
    → IsWithin g idle → phase_of register idle ≡ given_up (phase_of register state) → AreParts s a g register buffer buffered next_pages idle
parts_given_up s a g register buffer buffered next_pages state idle parts within phase =
    parts_moved s a g register buffer buffered next_pages state idle parts within (λ row column is. absurd (never_shown (phase_of register state) row column (ap (phase_of register) (sym is) ∙ phase)))

-- and the store was asked for something, so that the buffer has the page of no row
pub parts_asked : (s t : Held) (a b : Bool) (g : Geometry) (register buffer left : List ℕ) (buffered : Option ℕ) (next_pages : List NextPage) (state idle : BusState) → AreParts s a g register buffer buffered next_pages state
    → t.geometry ≡ s.geometry → b ≡ a → (a ≡ true → AreImages s → AreImages t) → length left ≡ length buffer → IsWithin g idle → phase_of register idle ≡ given_up (phase_of register state) → AreParts t b g register left None next_pages idle
parts_asked s t a b g register buffer left buffered next_pages state idle parts geometry e images long within phase = record {
  same = geometry ∙ parts.same;
  images = λ h. images (sym e ∙ h) (parts.images (sym e ∙ h));
  register_whole = parts.register_whole;
  buffer_whole = long ∙ parts.buffer_whole;
  next_pages_whole = parts.next_pages_whole;
  within = within;
  holds = λ h row is. absurd (no_row row is);
  put_out = λ row column is. absurd (never_shown (phase_of register state) row column (ap (phase_of register) (sym is) ∙ phase));
}

same_page : (row r column c : ℕ) → stands.Ready (source.Page row column) ≡ stands.Ready (source.Page r c) → Some row ≡ Some r
same_page row r column c e = let same : row ≡ r = cc in ap Some same

-- it was loaded
pub parts_loaded : (s t : Held) (a b : Bool) (g : Geometry) (register buffer left : List ℕ) (buffered : Option ℕ) (next_pages : List NextPage) (state : BusState) (row column : ℕ) → AreParts s a g register buffer buffered next_pages state
    → t.geometry ≡ s.geometry → b ≡ a → (a ≡ true → t ≡ s) → length left ≡ length buffer → IsWithin g (stands.Ready (source.Page row column)) → (a ≡ true → page_of g left ≡ page_in s.pages row)
    → AreParts t b g register left (Some row) next_pages (stands.Ready (source.Page row column))
parts_loaded s t a b g register buffer left buffered next_pages state row column parts geometry e same long within gave = record {
  same = geometry ∙ parts.same;
  images = λ h. subst AreImages (sym (same (sym e ∙ h))) (parts.images (sym e ∙ h));
  register_whole = parts.register_whole;
  buffer_whole = long ∙ parts.buffer_whole;
  next_pages_whole = parts.next_pages_whole;
  within = within;
  holds = λ h r is.
      let one : row ≡ r = cc in
      gave (sym e ∙ h) ∙ (ap (λ (x : Held). page_in x.pages row) (sym (same (sym e ∙ h))) ∙ ap (page_in t.pages) one);
  put_out = λ r c is. same_page row r column c is;
}

-- it was in the buffer before
pub parts_shown : (s : Held) (a : Bool) (g : Geometry) (register buffer : List ℕ) (buffered : Option ℕ) (next_pages : List NextPage) (state : BusState) (row column : ℕ) → AreParts s a g register buffer buffered next_pages state
    → buffered ≡ Some row → IsWithin g (stands.Ready (source.Page row column)) → AreParts s a g register buffer buffered next_pages (stands.Ready (source.Page row column))
parts_shown s a g register buffer buffered next_pages state row column parts is within =
    parts_moved s a g register buffer buffered next_pages state (stands.Ready (source.Page row column)) parts within (λ r c e. is ∙ same_page row r column c e)

-- ---- what the cycle comes to

module _ {S : Type 0} (held : S → Held) (honest : S → Bool) (failed : S → ℕ) (store left : S) (next_pages : List NextState) (abuse : ℕ) (phase : Phase) (register : List ℕ) (status : ℕ) (sync_when : SyncWhen) (d : FileState S) (g : Geometry)
    (is : of_parts store next_pages abuse phase register status sync_when ≡ d) (as_g : (held store).geometry ≡ g) (images : honest store ≡ true → AreImages (held store)) (blocks : length next_pages ≡ g.blocks) (same : honest store ≡ true → held left ≡ held store) where
  pub acts_shown : (to : Phase) → Asks held honest failed store left (Ok tt) → ActsOverStore held honest failed (Moves to) d (of_parts left next_pages abuse to register status sync_when) (Ok tt)
  acts_shown to asks =
      let old = of_parts store next_pages abuse phase register status sync_when in
      let new = of_parts left next_pages abuse to register status sync_when in
      subst (λ v. ActsOverStore held honest failed (Moves to) v new (Ok tt)) is
      (acts_done held honest failed (Moves to) old new refl asks
      (λ h. ap (λ s. record { flash = flash_over s next_pages abuse; phase = to; status = status }) (same h)) same
      (λ h. record { image_whole = (subst AreImages (sym (same h)) (images h)).pages_whole; next_pages_whole = blocks ∙ ap (λ (x : Geometry). x.blocks) (sym (asks.geometry ∙ as_g)) }))

  pub acts_unshown : (to idle : Phase) (fault : BusFault) → idle ≡ given_up phase → Asks held honest failed store left (Err fault) → ActsOverStore held honest failed (Moves to) d (of_parts left next_pages abuse idle register status sync_when) (Err fault)
  acts_unshown to idle fault given asks =
      let old = of_parts store next_pages abuse phase register status sync_when in
      let new = of_parts left next_pages abuse idle register status sync_when in
      subst (λ v. ActsOverStore held honest failed (Moves to) v new (Err fault)) is
      (acts_failed held honest failed (Moves to) old new fault (record { images = images; blocks = blocks ∙ ap (λ (x : Geometry). x.blocks) (sym as_g) })
      (ap (λ p. of_parts left next_pages abuse p register status sync_when) given) asks (λ h. subst AreImages (sym (same h)) (images h)) same)
