mod RunTurns
