use Rattle.std.proofs.Common.{◌≡◌, ℕ, [], ◌∷◌, length, replicate, All, length-set, refl, ap, subst, sym, ◌∙◌, arith}
use Rattle.std.proofs.lemmas.List.{length-replicate}
use Rattle.std.proofs.lemmas.List.Elements.{All-set, All-replicate, All-from_recursion}
use Rattle.certificate.specs.declared.block_state.BlockState.{BlockState}
use Rattle.certificate.specs.Claim.{sizes_of}
use Rattle.certificate.specs.Spelling.{FitsBlock, rows_of}
use Rattle.certificate.specs.Parts.{IsRowWord}
use Rattle.die_tests.proofs.tests.checks.certificates.formatted.Goals as goal

pub new-requires : goal.new-requires
new-requires c =
    let g = c.args.geometry in
    let free : BlockState = record { class = 0; pointer = 0; live = 0; wear = 0 } in
    let open' : BlockState = record { class = 2; pointer = 2; live = 2; wear = 0 } in
    let blocks_are : c.in_ok-blocks.blocks.items ≡ replicate 32 free = c.in_ok-blocks.ensures.items_if_clones_equal (λ y e. e) in
    let directory_is : c.in_ok-directory.directory.items ≡ 0xffff_ffff ∷ 0xffff_ffff ∷ 0 ∷ 1 ∷ [] = c.in_ok-directory.ensures.items_if_clones_equal (λ x y e. e) in
    let sectors_are : c.in_ok-sectors.sectors.items ≡ replicate 32 0xffff_ffff = c.in_ok-sectors.ensures.items_if_clones_equal (λ y e. e) in
    let rows : rows_of (sizes_of g) ≡ 256 = rw (c.requires.blocks_is, c.requires.pages_is) refl in
    let free_fits : FitsBlock free = record { class = omega arith; pointer = omega arith; live = omega arith; wear = omega arith } in
    let open_fits : FitsBlock open' = record { class = omega arith; pointer = omega arith; live = omega arith; wear = omega arith } in
    record {
      capacity_least = omega arith;
      capacity_most = omega arith;
      states = All-set FitsBlock c.in_ok-blocks.blocks.items 0 open' open_fits (subst (All FitsBlock) (sym blocks_are) (All-replicate FitsBlock 32 free free_fits));
      directory_words = rw directory_is (All-from_recursion (IsRowWord (rows_of (sizes_of g))) (0xffff_ffff ∷ 0xffff_ffff ∷ 0 ∷ 1 ∷ []) (tt, (tt, (omega (arith, rows), (omega (arith, rows), tt)))));
      sector_words = rw sectors_are (All-replicate (IsRowWord (rows_of (sizes_of g))) 32 0xffff_ffff tt);
      blocks_length = length-set c.in_ok-blocks.blocks.items 0 open' ∙ (ap length blocks_are ∙ (length-replicate 32 free ∙ sym c.requires.blocks_is));
      directory_length = ap length directory_is ∙ sym (rw (c.requires.sectors_is, c.requires.data_bytes_is, c.requires.blocks_is) refl);
      sectors_length = ap length sectors_are ∙ (length-replicate {A = ℕ} 32 0xffff_ffff ∙ sym c.requires.sectors_is);
    }
