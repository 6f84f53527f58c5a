use Rattle.std.proofs.Common.{◌≡◌, ◌∷◌, [], Some, None, ◌∙◌}
use Rattle.program_words.proofs.NumberLemmas.{same_rest}
use Rattle.program_words.proofs.numbers.geometry_numbers.Goals as goal

pub returns-in_err-data_bytes-clause-all : goal.returns-in_err-data_bytes-clause-all
returns-in_err-data_bytes-clause-all c numbers spelled =
    absurd (c.in_err-data_bytes.ensures.all numbers.data_bytes spelled.0 spelled.1)

pub returns-in_err-spare_bytes-clause-all : goal.returns-in_err-spare_bytes-clause-all
returns-in_err-spare_bytes-clause-all c numbers spelled =
    let data_bytes_is = c.in_ok-data_bytes.ensures.all numbers.data_bytes spelled.0 spelled.1 in
    let after_data_bytes = same_rest c.in_ok-data_bytes.rest.now spelled.0 (numbers.spare_bytes ∷ numbers.pages ∷ numbers.blocks ∷ numbers.sectors ∷ []) data_bytes_is.1 spelled.2 in
    absurd (c.in_err-spare_bytes.ensures.all numbers.spare_bytes after_data_bytes.0 after_data_bytes.1)

pub returns-in_err-pages-clause-all : goal.returns-in_err-pages-clause-all
returns-in_err-pages-clause-all c numbers spelled =
    let data_bytes_is = c.in_ok-data_bytes.ensures.all numbers.data_bytes spelled.0 spelled.1 in
    let after_data_bytes = same_rest c.in_ok-data_bytes.rest.now spelled.0 (numbers.spare_bytes ∷ numbers.pages ∷ numbers.blocks ∷ numbers.sectors ∷ []) data_bytes_is.1 spelled.2 in
    let spare_bytes_is = c.in_ok-spare_bytes.ensures.all numbers.spare_bytes after_data_bytes.0 after_data_bytes.1 in
    let after_spare_bytes = same_rest c.in_ok-spare_bytes.rest.now after_data_bytes.0 (numbers.pages ∷ numbers.blocks ∷ numbers.sectors ∷ []) spare_bytes_is.1 after_data_bytes.2 in
    absurd (c.in_err-pages.ensures.all numbers.pages after_spare_bytes.0 after_spare_bytes.1)

pub returns-in_err-blocks-clause-all : goal.returns-in_err-blocks-clause-all
returns-in_err-blocks-clause-all c numbers spelled =
    let data_bytes_is = c.in_ok-data_bytes.ensures.all numbers.data_bytes spelled.0 spelled.1 in
    let after_data_bytes = same_rest c.in_ok-data_bytes.rest.now spelled.0 (numbers.spare_bytes ∷ numbers.pages ∷ numbers.blocks ∷ numbers.sectors ∷ []) data_bytes_is.1 spelled.2 in
    let spare_bytes_is = c.in_ok-spare_bytes.ensures.all numbers.spare_bytes after_data_bytes.0 after_data_bytes.1 in
    let after_spare_bytes = same_rest c.in_ok-spare_bytes.rest.now after_data_bytes.0 (numbers.pages ∷ numbers.blocks ∷ numbers.sectors ∷ []) spare_bytes_is.1 after_data_bytes.2 in
    let pages_is = c.in_ok-pages.ensures.all numbers.pages after_spare_bytes.0 after_spare_bytes.1 in
    let after_pages = same_rest c.in_ok-pages.rest.now after_spare_bytes.0 (numbers.blocks ∷ numbers.sectors ∷ []) pages_is.1 after_spare_bytes.2 in
    absurd (c.in_err-blocks.ensures.all numbers.blocks after_pages.0 after_pages.1)

pub returns-in_err-sectors-clause-all : goal.returns-in_err-sectors-clause-all
returns-in_err-sectors-clause-all c numbers spelled =
    let data_bytes_is = c.in_ok-data_bytes.ensures.all numbers.data_bytes spelled.0 spelled.1 in
    let after_data_bytes = same_rest c.in_ok-data_bytes.rest.now spelled.0 (numbers.spare_bytes ∷ numbers.pages ∷ numbers.blocks ∷ numbers.sectors ∷ []) data_bytes_is.1 spelled.2 in
    let spare_bytes_is = c.in_ok-spare_bytes.ensures.all numbers.spare_bytes after_data_bytes.0 after_data_bytes.1 in
    let after_spare_bytes = same_rest c.in_ok-spare_bytes.rest.now after_data_bytes.0 (numbers.pages ∷ numbers.blocks ∷ numbers.sectors ∷ []) spare_bytes_is.1 after_data_bytes.2 in
    let pages_is = c.in_ok-pages.ensures.all numbers.pages after_spare_bytes.0 after_spare_bytes.1 in
    let after_pages = same_rest c.in_ok-pages.rest.now after_spare_bytes.0 (numbers.blocks ∷ numbers.sectors ∷ []) pages_is.1 after_spare_bytes.2 in
    let blocks_is = c.in_ok-blocks.ensures.all numbers.blocks after_pages.0 after_pages.1 in
    let after_blocks = same_rest c.in_ok-blocks.rest.now after_pages.0 (numbers.sectors ∷ []) blocks_is.1 after_pages.2 in
    let written : c.number.result ≡ Some numbers.sectors = c.number.ensures ∙ after_blocks in
    let failed : c.number.result ≡ None = c.in_err-sectors.was in
    absurd (cc)

pub returns-clause-all : goal.returns-clause-all
returns-clause-all c numbers spelled =
    let data_bytes_is = c.in_ok-data_bytes.ensures.all numbers.data_bytes spelled.0 spelled.1 in
    let after_data_bytes = same_rest c.in_ok-data_bytes.rest.now spelled.0 (numbers.spare_bytes ∷ numbers.pages ∷ numbers.blocks ∷ numbers.sectors ∷ []) data_bytes_is.1 spelled.2 in
    let spare_bytes_is = c.in_ok-spare_bytes.ensures.all numbers.spare_bytes after_data_bytes.0 after_data_bytes.1 in
    let after_spare_bytes = same_rest c.in_ok-spare_bytes.rest.now after_data_bytes.0 (numbers.pages ∷ numbers.blocks ∷ numbers.sectors ∷ []) spare_bytes_is.1 after_data_bytes.2 in
    let pages_is = c.in_ok-pages.ensures.all numbers.pages after_spare_bytes.0 after_spare_bytes.1 in
    let after_pages = same_rest c.in_ok-pages.rest.now after_spare_bytes.0 (numbers.blocks ∷ numbers.sectors ∷ []) pages_is.1 after_spare_bytes.2 in
    let blocks_is = c.in_ok-blocks.ensures.all numbers.blocks after_pages.0 after_pages.1 in
    let after_blocks = same_rest c.in_ok-blocks.rest.now after_pages.0 (numbers.sectors ∷ []) blocks_is.1 after_pages.2 in
    let written : c.number.result ≡ Some numbers.sectors = c.number.ensures ∙ after_blocks in
    let found : c.number.result ≡ Some c.in_ok-sectors.sectors = c.in_ok-sectors.was in
    let sectors_is : c.in_ok-sectors.sectors ≡ numbers.sectors = cc in
    λ i. Some (record { data_bytes = data_bytes_is.0 i; spare_bytes = spare_bytes_is.0 i; pages = pages_is.0 i; blocks = blocks_is.0 i; sectors = sectors_is i })
