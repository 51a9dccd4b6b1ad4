mod AttemptLaws
