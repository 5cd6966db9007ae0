use Rattle.pot_execution.proofs.tracked_group.TrackedGroup.use_of.Goals as goal

pub returns : goal.returns
returns g c = rw (← c.self.view_is) c.use_of.ensures
