-- The laws of both splits.
use Rattle.pot_split.specs.Secrecy.{SecrecyLaws}
use Rattle.pot_split.specs.Threshold.{ThresholdLaws}
use Rattle.pot_split.proofs.RowLemmas.{meaning-secrecy}
use Rattle.pot_split.proofs.PadLemmas.{long_law, others_law, bytes_law, back_law}
use Rattle.pot_split.proofs.ThresholdLaws.{joins_law, hides_law}
use Rattle.pot_split.proofs.ExplainLemmas.{as_many_law, bytes_law as coefficients_law, back_law as again_law}
use Rattle.pot_split.proofs.JoinLemmas.{some_join, unique_join}

pub secrecy_laws : SecrecyLaws
secrecy_laws = record {
  joins = meaning-secrecy;
  hides = λ object other pads f j h below apart. others_law object other pads f j h.same_length h.some h.rows h.fragment below apart;
  as_long = λ object other pads f h. long_law object other pads f h.same_length h.some h.rows h.fragment;
  bytes = bytes_law;
  back = λ object other pads f h. back_law object other pads f h.same_length h.some h.rows h.fragment;
}

pub threshold_laws : ThresholdLaws
threshold_laws = record {
  joins = joins_law;
  hides = hides_law;
  as_many = as_many_law;
  bytes = coefficients_law;
  back = again_law;
  exists = some_join;
  unique = unique_join;
}
