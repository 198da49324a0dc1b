mod Shadowed
