use Rattle.promises.proofs.StopLemmas.{no_operation, torn_in_one_law, between, stops_join, image_law}
use Rattle.promises.proofs.laws.stop_laws.Goals as goal

pub returns : goal.returns
returns c = record { no_operation = no_operation; torn_in_one = torn_in_one_law; between = between; join = stops_join; image = image_law }
