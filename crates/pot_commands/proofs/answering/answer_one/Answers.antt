use Rattle.pot_commands.specs.Sharing.{common_of}
use Rattle.pot_commands.proofs.BlindLemmas.{fetch_blinds, renew_blinds, repair_blinds}
use Rattle.pot_commands.proofs.answering.answer_one.Goals as goal

pub returns-in-Fetch-clause-blinds : goal.returns-in-Fetch-clause-blinds
returns-in-Fetch-clause-blinds g c = fetch_blinds (common_of c.args.shared.now) _ _ _ _ _ _ _ c.in-Fetch.is c.new-pads-in-Fetch.ensures c.fetch-fetched.ensures.blinds

pub returns-in-Renew-clause-blinds : goal.returns-in-Renew-clause-blinds
returns-in-Renew-clause-blinds g c = renew_blinds (common_of c.args.shared.now) _ _ _ _ _ _ _ _ c.in-Renew.is c.new-blinds.ensures c.renew-renewed.ensures.blinds

pub returns-in-Repair-clause-blinds : goal.returns-in-Repair-clause-blinds
returns-in-Repair-clause-blinds g c = repair_blinds (common_of c.args.shared.now) _ _ _ _ _ _ _ c.in-Repair.is c.new-pads-in-Repair.ensures c.repair_group-repaired.ensures.blinds
