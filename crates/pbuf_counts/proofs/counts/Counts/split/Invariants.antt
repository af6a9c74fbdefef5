use Rattle.pbuf_counts.proofs.counts.Counts.split.Given as goal

abbrev pub ghosts-cut : goal.ghosts-cut
ghosts-cut a = record { adds = a.adds }
