use Rattle.pot_turn.proofs.turning.Turn.split.Given as goal

-- the number of parts of this call
abbrev pub ghosts-cut : goal.ghosts-cut
ghosts-cut g a = record { parts = a.parts }
