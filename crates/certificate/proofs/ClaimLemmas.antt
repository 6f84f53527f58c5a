-- Parts that fit together make a claim that fits.
use Rattle.std.proofs.Common.{ℕ, ◌^◌, ◌<◌, List, map, ◌∙◌}
use Rattle.std.proofs.lemmas.List.{length-map}
use Rattle.std.proofs.lemmas.List.Elements.{All-map, recursion_from_All}
use Rattle.page_layout.specs.declared.geometry.Geometry.{Geometry}
use Rattle.page_layout.specs.Word.{row_of_word}
use Rattle.certificate.specs.declared.block_state.BlockState.{BlockState}
use Rattle.certificate.specs.Claim.{sizes_of, claim_from}
use Rattle.certificate.specs.Spelling.{FitsBlock, IsRowOf, rows_of, Fits}
use Rattle.certificate.specs.Parts.{FitTogether}

pub parts_fit : (g : Geometry) (capacity next : ℕ) (blocks : List BlockState) (directory sectors : List ℕ) → FitTogether g capacity blocks directory sectors → next < 2 ^ 64 → Fits (claim_from (sizes_of g) capacity next blocks directory sectors)
parts_fit g capacity next blocks directory sectors parts small =
    let rows = rows_of (sizes_of g) in
    record {
      limits = g.limits;
      capacity_least = parts.capacity_least;
      capacity_most = parts.capacity_most;
      next = small;
      blocks = recursion_from_All FitsBlock blocks parts.states;
      directory = recursion_from_All (IsRowOf rows) (map row_of_word directory) (All-map (IsRowOf rows) row_of_word directory parts.directory_words);
      sectors = recursion_from_All (IsRowOf rows) (map row_of_word sectors) (All-map (IsRowOf rows) row_of_word sectors parts.sector_words);
      blocks_length = parts.blocks_length;
      directory_length = length-map directory row_of_word ∙ parts.directory_length;
      sectors_length = length-map sectors row_of_word ∙ parts.sectors_length;
    }
