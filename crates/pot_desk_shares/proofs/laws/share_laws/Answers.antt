use Rattle.pot_desk_shares.proofs.FormatLemmas.{one_share}
use Rattle.pot_desk_shares.proofs.SetLemmas.{joins_law, made_law}
use Rattle.pot_desk_shares.proofs.laws.share_laws.Goals as goal

pub returns : goal.returns
returns c = record { made = made_law; one_share = one_share; joins = joins_law }
