use Rattle.pot_steps.proofs.PutLaw.{put_keeps_law, single_law}
use Rattle.pot_steps.proofs.Steps.{worse_keeps}
use Rattle.pot_steps.proofs.RepairLaw.{mended_keeps}
use Rattle.pot_steps.proofs.Whole.{whole_sums, rebuildable_filled}
use Rattle.pot_steps.proofs.laws.stripe_laws.Goals as goal

pub returns : goal.returns
returns c = record {
  put = λ data_columns parity s s' c block p q fits. put_keeps_law data_columns parity s s' c block p q fits.small fits.few fits.one;
  loss = worse_keeps;
  mended = λ data_columns parity fits. mended_keeps data_columns parity fits.few fits.one fits.small;
  whole = whole_sums;
  rebuildable = rebuildable_filled;
  single = λ data_columns s blocks f. single_law data_columns s f.0 blocks f.1;
}
