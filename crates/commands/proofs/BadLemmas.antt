-- The blocks that a certificate gives as bad, as a die is made of them.
use Rattle.std.proofs.Common.{◌≡◌, ◌<◌, ◌≤◌, ◌==◌, ◌||◌, ℕ, Bool, true, false, List, [], ◌∷◌, get_or, length, take, min, Some, inl, inr, refl, sym, ap, subst, ◌∙◌, arith, if◌then◌else◌}
use Rattle.std.specs.Prelude.{not, nat_lt, nat_le, slice_get, filter}
use Rattle.std.specs.List.{range_with_len}
use Rattle.std.proofs.lemmas.Bool.{cases_Bool, eqb-true}
use Rattle.std.proofs.lemmas.Bool.Decides.{nat_tests}
use Rattle.std.proofs.lemmas.List.{get_or-take, get_or_default, length-take}
use Rattle.std.proofs.lemmas.Option.{slice_get_within, get_or_from_slice_get}
use Rattle.page_layout.specs.declared.geometry.Geometry.{Geometry}
use Rattle.certificate.specs.declared.block_state.BlockState.{BlockState}
use Rattle.certificate.specs.Claim.{Claim, is_good_state}
use Rattle.image_check.specs.Rising.{IsRisingBelow}
use Rattle.image_check.proofs.OnceLemmas.{filter_rising}
use Rattle.nand_die.specs.declared.fault.DieFault.{DieFault}
use Rattle.nand_die.specs.declared.fault.DieFault.TheVariants as die
use Rattle.nand_die.specs.Made.{AreNames, RefusesImage, is_named}
use Rattle.ftl_device.specs.Begin.{is_bad_in, no_block}
use Rattle.commands.specs.declared.text.CommandFault.TheVariants as fault
use Rattle.commands.specs.Check.{HasImageLength}
use Rattle.commands.specs.Serve.{bad_in, IsDieUnmade}

-- a block of class 4 or 5 is bad
pub bad_here : (c : Claim) (block : ℕ) (s : BlockState) → slice_get c.blocks block ≡ Some s → nat_le 4 s.class ≡ is_bad_in c block
bad_here c block s is = turned s.class ∙ ap (λ (b : BlockState). not (is_good_state b)) (sym (get_or_from_slice_get c.blocks block s no_block is))
  where
    turned : (class : ℕ) → nat_le 4 class ≡ not (nat_lt class 4)
    turned class = grind (arith, nat_tests)

-- rising numbers below the blocks of a die name each block once
rising_names : (g : Geometry) (n : ℕ) (names : List ℕ) → n ≤ g.blocks → IsRisingBelow n names → AreNames g names
rising_names g n names le rising at block bad =
    let within : at < length names = slice_get_within names at block bad.here in
    let here : get_or names at 0 ≡ block = get_or_from_slice_get names at block 0 bad.here in
    elim bad.wrong [
      | inl past ↦ let low = rising.below at within in omega (arith, past)
      | inr twice ↦
          let k = twice.0 in
          let short : k < length (take at names) = twice.1 in
          let before : k < at = omega (arith, length-take at names) in
          let same : get_or names k 0 ≡ block = get_or_default names k 0 block (omega arith) ∙ (sym (get_or-take at names k block before) ∙ twice.2) in
          let less = rising.rising k at before within in
          omega arith
    ]

-- the certificate's bad blocks do
pub bad_names : (g : Geometry) (c : Claim) → AreNames g (bad_in g c)
bad_names g c = rising_names g (min g.blocks c.sizes.blocks) (bad_in g c) (omega arith) (filter_rising (is_bad_in c) (min g.blocks c.sizes.blocks))

-- so a die of a whole image is refused for want of memory alone
pub unmade : (g : Geometry) (bytes : List ℕ) (c : Claim) (broken : DieFault) → HasImageLength g bytes → RefusesImage g bytes (bad_in g c) broken → IsDieUnmade g bytes (fault.Die broken)
unmade g bytes c die.WrongLength whole refused = absurd (refused whole)
unmade g bytes c (die.BadMark block) whole refused = absurd (bad_names g c refused.1.at block refused.1.misnamed)
unmade g bytes c die.OutOfMemory whole refused = (whole, refl)
unmade g bytes c die.SoundFaultPage whole refused = absurd refused

-- a block that is named so is bad by the certificate
named_kept : (p : ℕ → Bool) (x b : ℕ) (rest : List ℕ) (kept : Bool) → p x ≡ kept → (is_named rest b ≡ true → p b ≡ true) → is_named (if kept then x ∷ rest else rest) b ≡ true → p b ≡ true
named_kept p x b rest false is onward h = onward h
named_kept p x b rest true is onward h = elim (cases_Bool (x == b)) [
  | inl same ↦ subst (λ k. p k ≡ true) (eqb-true x b same) is
  | inr other ↦ onward (subst (λ (r : Bool). (r || is_named rest b) ≡ true) other h)
]

named_filter : (p : ℕ → Bool) (xs : List ℕ) (b : ℕ) → is_named (filter p xs) b ≡ true → p b ≡ true
named_filter p [] b h = (let no : ⊥ = cc in absurd no)
named_filter p (x ∷ xs) b h = named_kept p x b (filter p xs) (p x) refl (named_filter p xs b) h

pub named_bad : (g : Geometry) (c : Claim) (b : ℕ) → is_named (bad_in g c) b ≡ true → is_bad_in c b ≡ true
named_bad g c b h = named_filter (is_bad_in c) (range_with_len 0 (min g.blocks c.sizes.blocks)) b h
