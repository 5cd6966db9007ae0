use Rattle.pot_steps.proofs.Decides.{filling_computed, made, made_filling}
use Rattle.pot_steps.proofs.laws.filling_laws.Goals as goal

pub returns : goal.returns
returns c = record {
  computed = λ data_columns parity fits s t u base apart. filling_computed data_columns parity fits.few fits.one fits.small s t u base apart.target apart.other apart.apart apart.single;
  made = λ data_columns parity fits s t u base apart read x y cx cy sx sy. (
    made data_columns parity fits.few fits.one fits.small s t u base apart.target apart.other apart.apart apart.single read x y cx cy sx sy,
    made_filling data_columns parity fits.few fits.one fits.small s t u base apart.target apart.other apart.apart apart.single read x y cx cy sx sy,
  );
}
